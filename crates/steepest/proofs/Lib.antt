-- The heights that keys tell; the comparisons as the code does them.
pub mod KeyHeights
pub mod Products
