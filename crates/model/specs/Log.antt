-- The log of committed versions, newest first, and what document 01 counts in it.
use Rattle.std.specs.Prelude.{ℕ, suc, Bool, cond, ◌&&◌, List, [], ◌∷◌, ◌++◌, eqb, leb, ltb, ℤ, Option, Some, None}
use Rattle.lists.specs.Lists.{count, any}
use Rattle.units.specs.Version.{start_version}
use Rattle.units.specs.declared.Version.{Version}
use Rattle.transaction.specs.declared.Write.{Write}

-- a version of a key in the log
pub record Entry : Type 0 where
  pub key : ℕ
  pub ordinal : ℕ
  pub stamp : ℕ
  pub value : ℤ

abbrev pub version_of : Entry → Version
version_of e = record { ordinal = record { 0 = e.ordinal }; stamp = record { 0 = e.stamp }; value = e.value }

abbrev pub of_key : ℕ → Entry → Bool
of_key x e = eqb e.key x

-- "O_x(t) is the number of versions of x with a stamp at or before t, the start version not counted"
unfoldable pub up_to : List Entry → ℕ → ℕ → ℕ
up_to log x t = count (λ (e : Entry). of_key x e && leb e.stamp t) log

-- "the versions of x committed strictly after c_j and strictly before c_l"
unfoldable pub between : List Entry → ℕ → ℕ → ℕ → ℕ
between log x after before = count (λ (e : Entry). of_key x e && (ltb after e.stamp && ltb e.stamp before)) log

-- whether some version of x has a stamp above t
unfoldable pub changed_after : List Entry → ℕ → ℕ → Bool
changed_after log x t = any (λ (e : Entry). of_key x e && ltb t e.stamp) log

-- how many versions x has, the start version not counted
unfoldable pub versions : List Entry → ℕ → ℕ
versions log x = count (of_key x) log

unfoldable pub newest : List Entry → ℕ → Version
newest [] x = start_version
newest (e ∷ es) x = cond (of_key x e) (version_of e) (newest es x)

unfoldable pub logged : List Entry → ℕ → ℕ → Option Version
logged [] x o = None
logged (e ∷ es) x o = cond (of_key x e && eqb e.ordinal o) (Some (version_of e)) (logged es x o)

-- the version of x that has the ordinal o; every key has its start version
unfoldable pub look_up : List Entry → ℕ → ℕ → Option Version
look_up log x o = cond (eqb o 0) (Some start_version) (logged log x o)

-- the log with one version more: the key's next ordinal
abbrev pub next : List Entry → ℕ → Write → Entry
next log stamp w = record { key = w.key; ordinal = suc (versions log w.key); stamp = stamp; value = w.value }

-- "Commit installs the written keys in the order of first writing, all with the commit's stamp, each with its key's next ordinal"
unfoldable pub installed : List Entry → ℕ → List Write → List Entry
installed log stamp [] = log
installed log stamp (w ∷ ws) = installed (next log stamp w ∷ log) stamp ws

-- the versions that the commit at a stamp made, in log order: the oldest first
unfoldable pub made_at : List Entry → ℕ → List Entry
made_at [] t = []
made_at (e ∷ es) t = cond (eqb e.stamp t) (made_at es t ++ (e ∷ [])) (made_at es t)
