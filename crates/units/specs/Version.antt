-- The version that every key has before any commit.
use Rattle.std.specs.Prelude.{pos}
use Rattle.units.specs.declared.Version.{Version}

-- "0 for the start version (value 0, stamp 0)"
abbrev pub start_version : Version
start_version = record { ordinal = record { 0 = 0 }; stamp = record { 0 = 0 }; value = pos 0 }
