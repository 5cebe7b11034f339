-- From the head of a row to that of the next.
mod Steps
