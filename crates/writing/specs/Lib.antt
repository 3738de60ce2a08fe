-- Records that a file can have, and the file that is written of them.
pub mod OneFile
pub mod Sound
