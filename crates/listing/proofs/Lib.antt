-- The line before those of the posts.
mod Starting
