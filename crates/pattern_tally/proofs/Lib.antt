-- What patterns tell of the counts.
mod Told
