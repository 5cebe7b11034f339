-- Posts picked as they are driven past.
mod Picking
