mod Cells
mod Starts
