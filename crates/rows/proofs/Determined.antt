-- Two replies that the contract of `count_both` allows for one input are equal: it says each field, and these are all.
use Prim.Native.Nat.{ℕ}
use mathlib.Core.Path.{◌≡◌, sym, ◌∙◌}
use Rattle.rows.specs.declared.Counted.{Counted}

by_fields : (x y v w : ℕ) → x ≡ y → v ≡ w → ◌≡◌ {A = Counted} (record { within = x; between = v }) (record { within = y; between = w })
by_fields x y v w e f = rw (e, f)

pub counted_one : (r q : Counted) {n m : ℕ} → r.within ≡ n → r.between ≡ m → q.within ≡ n → q.between ≡ m → r ≡ q
counted_one r q a b c d = by_fields r.within q.within r.between q.between (a ∙ sym c) (b ∙ sym d)
