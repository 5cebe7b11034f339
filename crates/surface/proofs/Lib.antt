-- The laws, over the definitions of specs/, on four floors: each uses those before it.
-- General: numbers, lists and orders. AnyOrder: what holds of any order of the posts, any choice of diagonals and any pick of a lower neighbour. OfPlots: that the
-- order, diagonals and picks of a plot are such, and what follows. OfCalls: the calls, what they refuse, and demand 3.
pub mod General
pub mod AnyOrder
pub mod OfPlots
pub mod OfCalls
