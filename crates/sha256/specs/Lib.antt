-- SHA-256 as FIPS 180-4 has it, the window that the code keeps of its schedule, and a message that comes in slices.
pub mod Buffered
pub mod Sha256
pub mod Window
