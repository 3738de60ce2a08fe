-- What the hash functions of FIPS 180-4 on 32-bit words share.
pub mod Blocks
pub mod Buffer
pub mod Buffered
pub mod Padding
pub mod Window
pub mod Words
