pub mod HeadLaws
pub mod FloatWays
pub mod HeadWays
pub mod PutWays
pub mod TextWays
pub mod OrderWays
pub mod Computed
pub mod AsciiWays
