mod Fractions
mod SameDays
