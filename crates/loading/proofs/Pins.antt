-- The pins of a record as a loop over their five bytes: the pins that are left decide the record's fault. Assumes nothing.
use Rattle.std.proofs.Common.{◌≡◌, ℕ, zero, suc, ◌+◌, ◌*◌, ◌/◌, ◌<◌, ◌≤◌, Bool, true, false, cond, List, [], ◌∷◌, map, length, get_or, drop, Some, None, Option, sym, refl, ap, ◌∙◌, add-one, arith}
use Rattle.std.proofs.lemmas.List.{drop_all}
use Rattle.std.specs.List.{slice_get}
use Rattle.std.specs.Simd.{first_chunks}
use Rattle.signals.specs.declared.signal.SignalType.{SignalType}
use Rattle.blocks.specs.Meanings.{Shape, with_shape}
use Rattle.charts.specs.Pages.{Shapes}
use Rattle.charts.specs.Loading.{Raw, Pin, pins_of, pins_in, output_in, is_block, body_length, first_of, fault_of_pins, fault_two}
use Rattle.charts.proofs.WalkOne.{output_whole}
use Rattle.loading.specs.Walks.{fault_of_output_record, fault_before_pins, pin_of, fault_at_pin}

-- ---- five bytes a pin

fives : (n : ℕ) (xs : List ℕ) → 5 * n ≤ length xs → length xs < 5 * n + 5 → pins_in xs ≡ map pin_of (first_chunks 5 n xs)
fives zero [] l h = refl
fives zero (t ∷ []) l h = refl
fives zero (t ∷ a ∷ []) l h = refl
fives zero (t ∷ a ∷ b ∷ []) l h = refl
fives zero (t ∷ a ∷ b ∷ c ∷ []) l h = refl
fives zero (t ∷ a ∷ b ∷ c ∷ d ∷ more) l h = absurd (omega arith)
fives (suc n) [] l h = absurd (omega arith)
fives (suc n) (t ∷ []) l h = absurd (omega arith)
fives (suc n) (t ∷ a ∷ []) l h = absurd (omega arith)
fives (suc n) (t ∷ a ∷ b ∷ []) l h = absurd (omega arith)
fives (suc n) (t ∷ a ∷ b ∷ c ∷ []) l h = absurd (omega arith)
fives (suc n) (t ∷ a ∷ b ∷ c ∷ d ∷ more) l h = ap (λ ps. record { tag = t; first = a; second = b; third = c; fourth = d } ∷ ps) (fives n more (omega arith) (omega arith))

-- the pins of a body are its chunks of five bytes
pub pins_by_fives : (body : List ℕ) (pins : List (List ℕ)) → pins ≡ first_chunks 5 (length body / 5) body → pins_in body ≡ map pin_of pins
pins_by_fives body pins e = let n : ℕ = length body / 5 in fives (length body / 5) body (omega arith) (omega arith) ∙ ap (map pin_of) (sym e)

-- one of the pins, then those behind it
pub next_five : (pins : List (List ℕ)) (n : ℕ) (d : List ℕ) → n < length pins → drop n pins ≡ get_or pins n d ∷ drop (n + 1) pins
next_five pins n d l = rw add-one (go pins n l)
  where
    go : (xs : List (List ℕ)) (k : ℕ) → k < length xs → drop k xs ≡ get_or xs k d ∷ drop (suc k) xs
    go [] k h = absurd (omega arith)
    go (x ∷ xs) zero h = refl
    go (x ∷ xs) (suc k) h = go xs k (omega arith)

-- ---- the fault of a record

-- the type of a pin, by the types of a kind's pins
pin_type_in : (o : Option Shape) (p : ℕ) → with_shape o (λ s. slice_get s.pins p) ≡ slice_get (pins_of o) p
pin_type_in None p = refl
pin_type_in (Some s) p = refl

module _ (shapes : Shapes) (kinds : List ℕ) where
  no_fault : (ts : List SignalType) → fault_of_pins shapes kinds ts [] ≡ None
  no_fault [] = refl
  no_fault (t ∷ ts) = refl

  pins_step : (n : ℕ) (ts : List SignalType) (p : Pin) (ps : List Pin)
      → fault_of_pins shapes kinds (drop n ts) (p ∷ ps) ≡ first_of (fault_at_pin shapes kinds (slice_get ts n) p) (fault_of_pins shapes kinds (drop (suc n) ts) ps)
  pins_step zero [] p ps = refl
  pins_step (suc n) [] p ps = refl
  pins_step zero (t ∷ ts) p ps = refl
  pins_step (suc n) (t ∷ ts) p ps = pins_step n ts p ps

  module _ (r : Raw) where
    -- the output record's test comes first
    pub fails_before : (n : ℕ) → Some n ≡ fault_before_pins shapes kinds r.kind r.body → fault_two shapes kinds r ≡ Some n
    fails_before n e = go (is_block r.kind) e
      where
        go : (b : Bool) → Some n ≡ cond b None (fault_of_output_record shapes kinds (output_in r.body))
            → cond b (fault_of_pins shapes kinds (pins_of (shapes r.kind)) (pins_in r.body)) (fault_of_output_record shapes kinds (output_in r.body)) ≡ Some n
        go true h = let z : ◌≡◌ {A = ℕ} 0 1 = cc (h) in absurd (omega arith)
        go false h = sym h

    -- the pins from one on decide
    abbrev pub PinsLeft : List (List ℕ) → ℕ → Type 0
    PinsLeft pins n = fault_of_pins shapes kinds (drop n (pins_of (shapes r.kind))) (map pin_of (drop n pins)) ≡ fault_two shapes kinds r

    module _ (pins : List (List ℕ)) where
      pub pins_first : pins ≡ first_chunks 5 (length r.body / 5) r.body → body_length shapes r.kind ≡ Some (length r.body) → None ≡ fault_before_pins shapes kinds r.kind r.body → PinsLeft pins 0
      pins_first p w e = ap (fault_of_pins shapes kinds (pins_of (shapes r.kind))) (sym (pins_by_fives r.body pins p)) ∙ go (is_block r.kind) refl e
        where
          none : (xs : List ℕ) → length xs ≡ 3 → pins_in xs ≡ []
          none [] l = refl
          none (a ∷ []) l = refl
          none (a ∷ b ∷ []) l = refl
          none (a ∷ b ∷ c ∷ []) l = refl
          none (a ∷ b ∷ c ∷ d ∷ more) l = absurd (omega arith)

          go : (b : Bool) → is_block r.kind ≡ b → None ≡ cond b None (fault_of_output_record shapes kinds (output_in r.body))
              → fault_of_pins shapes kinds (pins_of (shapes r.kind)) (pins_in r.body) ≡ cond b (fault_of_pins shapes kinds (pins_of (shapes r.kind)) (pins_in r.body)) (fault_of_output_record shapes kinds (output_in r.body))
          go true q h = refl
          go false q h = ap (fault_of_pins shapes kinds (pins_of (shapes r.kind))) (none r.body (output_whole shapes r.kind (length r.body) w q)) ∙ no_fault (pins_of (shapes r.kind)) ∙ h

      module _ (n : ℕ) (left : PinsLeft pins n) where
        pub pins_over : length pins ≤ n → fault_two shapes kinds r ≡ None
        pins_over l = sym left ∙ ap (λ ps. fault_of_pins shapes kinds (drop n (pins_of (shapes r.kind))) (map pin_of ps)) (drop_all n pins l) ∙ no_fault (drop n (pins_of (shapes r.kind)))

        module _ (pin d : List ℕ) (pin_is : pin ≡ get_or pins n d) (within : n < length pins) (o : Option ℕ) (tested : o ≡ fault_at_pin shapes kinds (with_shape (shapes r.kind) (λ s. slice_get s.pins n)) (pin_of pin)) where
          turned : fault_two shapes kinds r ≡ first_of o (fault_of_pins shapes kinds (drop (n + 1) (pins_of (shapes r.kind))) (map pin_of (drop (n + 1) pins)))
          turned =
              let ts = pins_of (shapes r.kind) in
              let more = fault_of_pins shapes kinds (drop (n + 1) ts) (map pin_of (drop (n + 1) pins)) in
              sym left ∙ ap (λ ps. fault_of_pins shapes kinds (drop n ts) (map pin_of ps)) (next_five pins n d within)
              ∙ pins_step n ts (pin_of (get_or pins n d)) (map pin_of (drop (n + 1) pins))
              ∙ ap (λ k. first_of (fault_at_pin shapes kinds (slice_get ts n) (pin_of (get_or pins n d))) (fault_of_pins shapes kinds (drop k ts) (map pin_of (drop (n + 1) pins)))) (sym (add-one n))
              ∙ (λ i. first_of (fault_at_pin shapes kinds (sym (pin_type_in (shapes r.kind) n) i) (pin_of (sym pin_is i))) more)
              ∙ ap (λ f. first_of f more) (sym tested)

          pub pin_fails : (k : ℕ) → o ≡ Some k → fault_two shapes kinds r ≡ Some k
          pin_fails k e = turned ∙ ap (λ f. first_of f (fault_of_pins shapes kinds (drop (n + 1) (pins_of (shapes r.kind))) (map pin_of (drop (n + 1) pins)))) e

          pub pin_passes : o ≡ None → PinsLeft pins (n + 1)
          pin_passes e = sym (turned ∙ ap (λ f. first_of f (fault_of_pins shapes kinds (drop (n + 1) (pins_of (shapes r.kind))) (map pin_of (drop (n + 1) pins)))) e)
