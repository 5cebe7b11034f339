-- docs/SPECIFICATION.md, "Calls": the version of the library as one number, 10,000 times the first, 100 times the second, and the third.
use Rattle.std.specs.Prelude.{ℕ, ◌+◌, ◌*◌}

unfoldable pub version : ℕ
version = 4 * 10000 + 2 * 100 + 0
