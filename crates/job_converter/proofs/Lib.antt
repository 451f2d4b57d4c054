-- What a file that is opened holds, the job that is read of it, the ways through the converter's tests and to what the program prints, the layout that a word names, and that the converter writes as the writer does, there and back.
pub mod Opening
pub mod Reading
pub mod Ways
pub mod Printing
pub mod Naming
pub mod Converting
pub mod Ranged
