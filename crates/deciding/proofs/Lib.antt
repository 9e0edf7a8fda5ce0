mod Polynomials
mod Mothers
