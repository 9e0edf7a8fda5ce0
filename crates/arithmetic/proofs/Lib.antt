mod Doubling
mod Bits
