mod Driving
mod Intervals
