-- Bands of rows, and what counting in one says of the plot.
mod Bands
mod Recounted
