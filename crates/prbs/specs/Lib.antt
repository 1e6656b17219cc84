pub mod TwoBits
