mod Rowed
mod Widths
mod Kernels
