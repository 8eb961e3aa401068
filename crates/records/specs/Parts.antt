-- A record by its parts, as document 01 lists them: "`s` T (start); `k` T k1 k2 k3 (tune ..); `r` T key W (T read W's version ..); `w` T key;
-- `c` T; `a` T". What is asked of a record by its kind, its transaction or its fields is asked of its parts.
use Rattle.std.specs.Prelude.{ℕ, Bool, ◌&&◌, eqb}
use Rattle.units.specs.Bounds.{calibration}
use Rattle.units.specs.declared.Bounds.{Bounds}
use Rattle.records.specs.declared.Record.{Record}
use Rattle.records.specs.declared.Record.TheVariants.{Start, Tune, Read, Write, Commit, Abort}

-- a field that a record does not have is 0, bounds are those of a transaction without a `k` line
pub record Parts : Type 0 where
  pub letter : ℕ
  pub name : ℕ
  pub bounds : Bounds
  pub key : ℕ
  pub source : ℕ

abbrev pub parts_of : Record → Parts
parts_of (Start t) = record { letter = 115; name = t; bounds = calibration; key = 0; source = 0 }
parts_of (Tune t b) = record { letter = 107; name = t; bounds = b; key = 0; source = 0 }
parts_of (Read t x w) = record { letter = 114; name = t; bounds = calibration; key = x; source = w }
parts_of (Write t x) = record { letter = 119; name = t; bounds = calibration; key = x; source = 0 }
parts_of (Commit t) = record { letter = 99; name = t; bounds = calibration; key = 0; source = 0 }
parts_of (Abort t) = record { letter = 97; name = t; bounds = calibration; key = 0; source = 0 }

-- T
abbrev pub name_of : Record → ℕ
name_of r = (parts_of r).name

-- the kinds, by the letters s, k, r, w, c, a
abbrev pub starts : Record → Bool
starts r = eqb (parts_of r).letter 115

abbrev pub tunes : Record → Bool
tunes r = eqb (parts_of r).letter 107

abbrev pub is_reading : Record → Bool
is_reading r = eqb (parts_of r).letter 114

abbrev pub is_writing : Record → Bool
is_writing r = eqb (parts_of r).letter 119

abbrev pub commits : Record → Bool
commits r = eqb (parts_of r).letter 99

abbrev pub aborts : Record → Bool
aborts r = eqb (parts_of r).letter 97

-- the lines of a transaction
abbrev pub is_start : ℕ → Record → Bool
is_start t r = starts r && eqb (name_of r) t

abbrev pub is_tune : ℕ → Record → Bool
is_tune t r = tunes r && eqb (name_of r) t

abbrev pub is_read : ℕ → Record → Bool
is_read t r = is_reading r && eqb (name_of r) t

abbrev pub is_write : ℕ → ℕ → Record → Bool
is_write t x r = is_writing r && (eqb (name_of r) t && eqb (parts_of r).key x)

abbrev pub is_commit : ℕ → Record → Bool
is_commit t r = commits r && eqb (name_of r) t

abbrev pub is_abort : ℕ → Record → Bool
is_abort t r = aborts r && eqb (name_of r) t
