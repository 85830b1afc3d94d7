-- The limits' numbers: R4, R7. Every other definition and theorem is for any limits. Interface: gate_limits, first_limits, capped.
use Rattle.std.specs.Prelude.{min}
use Rattle.ari.specs.declared.Limits.{Limits}

-- the gate's own
abbrev pub gate_limits : Limits
gate_limits = record { bytes = 16384; items = 4096; containers = 24; text = 131072 }

-- R191: those of before, which messages in day files of version 1 keep
abbrev pub first_limits : Limits
first_limits = record { bytes = 4096; items = 1024; containers = 12; text = 32768 }

-- Limits that a caller gives, none above the gate's own.
abbrev pub capped : Limits → Limits
capped m = record {
  bytes = min m.bytes gate_limits.bytes;
  items = min m.items gate_limits.items;
  containers = min m.containers gate_limits.containers;
  text = min m.text gate_limits.text;
}
