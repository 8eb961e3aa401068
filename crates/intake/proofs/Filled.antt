-- A read into the part of a room behind its filled front.
use Rattle.std.proofs.Common.{◌≡◌, ℕ, ◌+◌, ◌≤◌, List, ◌++◌, Option, None, Some, length, take, drop, sym, ap, ◌∙◌, append_assoc, arith, length-take-le, drop_at}
use Rattle.std.proofs.lemmas.Grind.{common_steps}
use Rattle.std.proofs.Math.Seq.{take-add}
use Rattle.std.proofs.lemmas.List.{take-append-le}
use Rattle.std.specs.Io.KnownBytes.{Consumes, Keeps}

pub Consumes-trans : (a b c : Option (List ℕ)) (xs ys : List ℕ) → Consumes a b xs → Consumes b c ys → Consumes a c (xs ++ ys)
Consumes-trans None b c xs ys p q = tt
Consumes-trans (Some x) None c xs ys p q = absurd p
Consumes-trans (Some x) (Some y) None xs ys p q = absurd q
Consumes-trans (Some x) (Some y) (Some z) xs ys p q = p ∙ ap (λ l. xs ++ l) q ∙ sym (append_assoc xs ys z)

pub Consumes-kept : (a b c : Option (List ℕ)) (xs : List ℕ) → Consumes a b xs → Keeps b c → Consumes a c xs
Consumes-kept None b c xs p q = tt
Consumes-kept (Some x) None c xs p q = absurd p
Consumes-kept (Some x) (Some y) None xs p q = absurd q
Consumes-kept (Some x) (Some y) (Some z) xs p q = p ∙ ap (λ l. xs ++ l) (sym q)

pub front_kept : (xs ys : List ℕ) (f : ℕ) → f ≤ length xs → take f (take f xs ++ ys) ≡ take f xs
front_kept xs ys f h = grind (arith, common_steps)

pub front_more : (xs ys zs : List ℕ) (f n : ℕ) → f ≤ length xs → n ≤ length ys → take (f + n) (take f xs ++ (ys ++ zs)) ≡ take f xs ++ take n ys
front_more xs ys zs f n h k =
    let at : drop f (take f xs ++ (ys ++ zs)) ≡ ys ++ zs = drop_at (take f xs) (ys ++ zs) f (length-take-le f xs h) in
    rw (take-add, front_kept xs (ys ++ zs) f h, at) (ap (λ l. take f xs ++ l) (take-append-le n ys zs k))
