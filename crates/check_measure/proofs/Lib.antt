-- What proves the radius: reaches and sizes in lent memory, and the running error analysis of the operator up to one row's verdict.
pub mod InPlace
pub mod SizesOf
pub mod Term
pub mod Vectors
pub mod Values
pub mod Radius
