pub mod Places
pub mod Words
pub mod CommandLine
pub mod ByNumber
pub mod Image
pub mod Numbers
pub mod Wired
