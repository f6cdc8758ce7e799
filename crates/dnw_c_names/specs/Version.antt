-- The version of the library, as one number (semver.org, 2.0.0, point 2).
use Rattle.std.specs.Prelude.{ℕ, ◌+◌, ◌*◌}

-- a major, a minor and a patch number in one, of which the last two are below 256
abbrev pub version_number : ℕ → ℕ → ℕ → ℕ
version_number major minor patch = major * 65536 + minor * 256 + patch

-- the version of this library
abbrev pub library_version : ℕ
library_version = version_number 0 1 0
