-- What the write of new cells rests on. Assumes nothing.
use Rattle.std.proofs.Common.{◌≡◌, Bool, true, false, ◌&&◌, ◌≢◌, List, [], ◌∷◌, map, length, refl, ap, sym, ◌∙◌, arith}
use Rattle.std.specs.List.{list_all, zip}
use Rattle.std.proofs.lemmas.List.{length-map}
use Rattle.signals.specs.Signals.{type_of}
use Rattle.signals.specs.declared.signal.Signal.{Signal}
use Rattle.blocks.specs.Meanings.{typed, same_type}
use Rattle.blocks.proofs.Answered.{typed_is}

abbrev pub pair_fits : Signal × Signal → Bool
pair_fits p = same_type (type_of p.0) (type_of p.1)

pub as_many : (new cs : List Signal) → typed (map type_of new) cs ≡ true → length cs ≡ length new
as_many new cs e = sym (length-map cs type_of) ∙ ap length (typed_is (map type_of new) cs e) ∙ length-map new type_of

pub other_count : (new cs : List Signal) → length new ≢ length cs → false ≡ typed (map type_of new) cs
other_count new cs other = go (typed (map type_of new) cs) refl
  where
    go : (b : Bool) → typed (map type_of new) cs ≡ b → false ≡ b
    go true e = absurd (other (sym (as_many new cs e)))
    go false e = refl

-- two lists of one length, tested pair by pair
pub pairwise : (new cs : List Signal) → length new ≡ length cs → list_all pair_fits (zip new cs) ≡ typed (map type_of new) cs
pairwise [] [] e = refl
pairwise [] (c ∷ cs) e = absurd (omega arith)
pairwise (n ∷ new) [] e = absurd (omega arith)
pairwise (n ∷ new) (c ∷ cs) e = ap (λ b. same_type (type_of n) (type_of c) && b) (pairwise new cs (omega arith))
