-- The tests of walk two: of a pin, of a block's pins and of an output record. Assumes nothing.
use Rattle.std.proofs.Common.{◌≡◌, ℕ, ◌<◌, Bool, true, false, cond, ◌&&◌, eqb, ◌⊎◌, List, [], ◌∷◌, Some, None, Option, sym, refl, ap, ◌∙◌, inl, inr, arith}
use Rattle.std.proofs.lemmas.Bool.{both_ways, eqb-true}
use Rattle.std.proofs.lemmas.Bool.Decides.{nat_tests}
use Rattle.signals.specs.Coding.{decoded}
use Rattle.signals.specs.Signals.{clean}
use Rattle.signals.specs.Terminals.{terminal_type}
use Rattle.signals.specs.declared.signal.Signal.{Signal}
use Rattle.signals.specs.declared.signal.SignalType.{SignalType}
use Rattle.blocks.specs.Meanings.{same_type}
use Rattle.blocks.proofs.Answered.{same_type_is, same_type_self}
use Rattle.charts.specs.Pages.{Shapes, wire_type}
use Rattle.charts.specs.Loading.{Raw, Pin, pin_bytes, pins_in, pins_of, output_in, is_block, fault_of_type, fault_of_constant, fault_of_pin, first_of, fault_of_pins, fault_of_output, fault_two}
use Rattle.charts.specs.Faults.{Test, NoTest, Malformed, WiredTo, terminal, output, Missing, Unlike, Unfit, FailsPin, PassesPin, FailsPins, this, next, ShowsNothing, ShowsUnlike, FailsTwo}
use Rattle.charts.proofs.Determined.{Determined, none_left, failing, passing, in_first, in_second}
use Rattle.charts.proofs.FaultOne.{kind_zero, kind_block}

-- ---- types

other_type : (t u : SignalType) → same_type t u ≡ false → u ≡ t → ⊥
other_type t u e q = both_ways (same_type t u) e (rw q (same_type_self t))

-- ---- a pin

pub both_zero : (a b : ℕ) → (eqb a 0 && eqb b 0) ≡ true → (a ≡ 0) × (b ≡ 0)
both_zero a b e = (grind (arith, nat_tests), grind (arith, nat_tests))

not_both_zero : (a b : ℕ) → (eqb a 0 && eqb b 0) ≡ false → (a ≡ 0) × (b ≡ 0) → ⊥
not_both_zero a b e q = let x = q.0 in let y = q.1 in grind (arith, nat_tests)

pub all_zero : (a b c : ℕ) → (eqb a 0 && eqb b 0 && eqb c 0) ≡ true → (a ≡ 0) × (b ≡ 0) × (c ≡ 0)
all_zero a b c e = (grind (arith, nat_tests), grind (arith, nat_tests), grind (arith, nat_tests))

not_all_zero : (a b c : ℕ) → (eqb a 0 && eqb b 0 && eqb c 0) ≡ false → (a ≡ 0) × (b ≡ 0) × (c ≡ 0) → ⊥
not_all_zero a b c e q = let x = q.0 in let y = q.1 in let z = q.2 in grind (arith, nat_tests)

module _ (shapes : Shapes) (kinds : List ℕ) (t : SignalType) (p : Pin) where
  to_terminal : (o : Option SignalType) → p.tag ≡ 1 → WiredTo shapes kinds p o → o ≡ terminal_type p.fourth
  to_terminal o e (terminal q) = refl
  to_terminal o e (output q) = absurd (omega arith)

  to_output : (o : Option SignalType) → p.tag ≡ 2 → WiredTo shapes kinds p o → o ≡ wire_type shapes kinds p.third p.fourth
  to_output o e (terminal q) = absurd (omega arith)
  to_output o e (output q) = refl

  to_nothing : (o : Option SignalType) → p.tag ≡ 0 → WiredTo shapes kinds p o → ⊥
  to_nothing o e (terminal q) = omega arith
  to_nothing o e (output q) = omega arith

  abbrev Seven : ℕ → Type 0
  Seven = Test 7 (Unfit t p) NoTest

  abbrev Six : ℕ → Type 0
  Six = Test 6 (Unlike shapes kinds t p) Seven

  abbrev Five : ℕ → Type 0
  Five = Test 5 (Missing shapes kinds p) Six

  -- a wired pin is fed one type
  wired_determined : (o : Option SignalType) → (p.tag ≡ 0 → ⊥) → WiredTo shapes kinds p o → ((x : Option SignalType) → WiredTo shapes kinds p x → x ≡ o) → Determined Five (fault_of_type t o)
  wired_determined None c w only = failing 5 (Missing shapes kinds p) Six (None, w, refl)
  wired_determined (Some u) c w only = passing 5 (Missing shapes kinds p) Six (fault_of_type t (Some u)) missing (go (same_type t u) refl)
    where
      missing : Missing shapes kinds p → ⊥
      missing m = let e = only m.0 m.1 in let f = m.2 in let z : ◌≡◌ {A = ℕ} 0 1 = cc in omega arith

      like : u ≡ t → Unlike shapes kinds t p → ⊥
      like q m = let e = only m.0 m.2 in let f = m.3 in let s : m.1 ≡ u = cc in m.4 (s ∙ q)

      go : (b : Bool) → same_type t u ≡ b → Determined Six (cond b None (Some 6))
      go true e = passing 6 (Unlike shapes kinds t p) Seven None (like (same_type_is t u e)) (passing 7 (Unfit t p) NoTest None (λ q. c q.0) none_left)
      go false e = failing 6 (Unlike shapes kinds t p) Seven (Some u, u, w, refl, other_type t u e)

  constant_determined : p.tag ≡ 0 → (o : Option Signal) → decoded t (pin_bytes p) ≡ o → Determined Seven (fault_of_constant o)
  constant_determined z None e = failing 7 (Unfit t p) NoTest (z, λ x f c. let w : ◌≡◌ {A = ℕ} 0 1 = cc (e, f) in omega arith)
  constant_determined z (Some x) e = go (clean x) refl
    where
      go : (b : Bool) → clean x ≡ b → Determined Seven (cond b None (Some 7))
      go true c = passing 7 (Unfit t p) NoTest None (λ q. q.1 x e c) none_left
      go false c = failing 7 (Unfit t p) NoTest (z, λ y f d. let s : x ≡ y = cc (e, f) in both_ways (clean x) c (ap clean s ∙ d))

  pin_determined : Determined (FailsPin shapes kinds t p) (fault_of_pin shapes kinds t p)
  pin_determined = go (eqb p.tag 0) (eqb p.tag 1) (eqb p.tag 2) refl refl refl
    where
      wired : (o : Option SignalType) (b : Bool) → (b ≡ true → Malformed p → ⊥) → (b ≡ false → Malformed p) → Determined Five (fault_of_type t o) → Determined (FailsPin shapes kinds t p) (cond b (fault_of_type t o) (Some 4))
      wired o true f g d = passing 4 (Malformed p) Five (fault_of_type t o) (f refl) d
      wired o false f g d = failing 4 (Malformed p) Five (g refl)

      go : (a b c : Bool) → eqb p.tag 0 ≡ a → eqb p.tag 1 ≡ b → eqb p.tag 2 ≡ c
          → Determined (FailsPin shapes kinds t p)
          (cond a (fault_of_constant (decoded t (pin_bytes p)))
          (cond b (cond (eqb p.first 0 && eqb p.second 0 && eqb p.third 0) (fault_of_type t (terminal_type p.fourth)) (Some 4))
          (cond c (cond (eqb p.first 0 && eqb p.second 0) (fault_of_type t (wire_type shapes kinds p.third p.fourth)) (Some 4)) (Some 4))))
      go true b c x y w =
          let z = eqb-true p.tag 0 x in
          let f = fault_of_constant (decoded t (pin_bytes p)) in
          passing 4 (Malformed p) Five f (elim [ inl l ↦ omega arith | inr l ↦ elim l [ inl q ↦ omega (arith, q.0) | inr q ↦ omega (arith, q.0) ] ])
          (passing 5 (Missing shapes kinds p) Six f (λ m. to_nothing m.0 z m.1)
          (passing 6 (Unlike shapes kinds t p) Seven f (λ m. to_nothing m.0 z m.2)
          (constant_determined z (decoded t (pin_bytes p)) refl)))
      go false true c x y w =
          let e = eqb-true p.tag 1 y in
          wired (terminal_type p.fourth) (eqb p.first 0 && eqb p.second 0 && eqb p.third 0)
          (λ q. elim [ inl l ↦ omega arith | inr l ↦ elim l [ inl m ↦ m.1 (all_zero p.first p.second p.third q) | inr m ↦ omega (arith, m.0) ] ])
          (λ q. inr (inl (e, not_all_zero p.first p.second p.third q)))
          (wired_determined (terminal_type p.fourth) (λ z. omega arith) (terminal e) (λ o m. to_terminal o e m))
      go false false true x y w =
          let e = eqb-true p.tag 2 w in
          wired (wire_type shapes kinds p.third p.fourth) (eqb p.first 0 && eqb p.second 0)
          (λ q. elim [ inl l ↦ omega arith | inr l ↦ elim l [ inl m ↦ omega (arith, m.0) | inr m ↦ m.1 (both_zero p.first p.second q) ] ])
          (λ q. inr (inr (e, not_both_zero p.first p.second q)))
          (wired_determined (wire_type shapes kinds p.third p.fourth) (λ z. omega arith) (output e) (λ o m. to_output o e m))
      go false false false x y w =
          let high : 2 < p.tag = grind (arith, nat_tests) in
          failing 4 (Malformed p) Five (inl high)

-- ---- the pins of a block

module _ (shapes : Shapes) (kinds : List ℕ) where
  pins_cons : (t : SignalType) (ts : List SignalType) (p : Pin) (ps : List Pin) (n : ℕ) → FailsPins shapes kinds (t ∷ ts) (p ∷ ps) n
      → FailsPin shapes kinds t p n ⊎ (PassesPin shapes kinds t p × FailsPins shapes kinds ts ps n)
  pins_cons t ts p ps n (this f) = inl f
  pins_cons t ts p ps n (next q f) = inr (q, f)

  first_determined : (t : SignalType) (ts : List SignalType) (p : Pin) (ps : List Pin) (o more : Option ℕ) → Determined (FailsPin shapes kinds t p) o → Determined (FailsPins shapes kinds ts ps) more
      → Determined (FailsPins shapes kinds (t ∷ ts) (p ∷ ps)) (first_of o more)
  first_determined t ts p ps (Some m) more d e = (this d.0, λ n f. elim (pins_cons t ts p ps n f) [ inl q ↦ d.1 n q | inr q ↦ absurd (q.0 m d.0) ])
  first_determined t ts p ps None None d e = λ n f. elim (pins_cons t ts p ps n f) [ inl q ↦ d n q | inr q ↦ e n q.1 ]
  first_determined t ts p ps None (Some m) d e = (next d e.0, λ n f. elim (pins_cons t ts p ps n f) [ inl q ↦ absurd (d n q) | inr q ↦ e.1 n q.1 ])

  no_types : (ps : List Pin) (n : ℕ) → FailsPins shapes kinds [] ps n → ⊥
  no_types ps n f = elim f [ ]

  no_pins : (t : SignalType) (ts : List SignalType) (n : ℕ) → FailsPins shapes kinds (t ∷ ts) [] n → ⊥
  no_pins t ts n f = elim f [ ]

  pins_determined : (ts : List SignalType) (ps : List Pin) → Determined (FailsPins shapes kinds ts ps) (fault_of_pins shapes kinds ts ps)
  pins_determined [] ps = λ n f. no_types ps n f
  pins_determined (t ∷ ts) [] = λ n f. no_pins t ts n f
  pins_determined (t ∷ ts) (p ∷ ps) = first_determined t ts p ps (fault_of_pin shapes kinds t p) (fault_of_pins shapes kinds ts ps) (pin_determined shapes kinds t p) (pins_determined ts ps)

  -- ---- an output record

  module _ (r : Raw) where
    abbrev Shown : ℕ → Type 0
    Shown = Test 6 (ShowsUnlike shapes kinds r) NoTest

    output_determined : (a b : Option SignalType) → terminal_type (output_in r.body).terminal ≡ a → wire_type shapes kinds (output_in r.body).block (output_in r.body).output ≡ b
        → Determined (Test 5 (ShowsNothing shapes kinds r) Shown) (fault_of_output a b)
    output_determined None b e f = failing 5 (ShowsNothing shapes kinds r) Shown (inl e)
    output_determined (Some t) None e f = failing 5 (ShowsNothing shapes kinds r) Shown (inr f)
    output_determined (Some t) (Some u) e f = passing 5 (ShowsNothing shapes kinds r) Shown (fault_of_type t (Some u)) something (go (same_type t u) refl)
      where
        something : ShowsNothing shapes kinds r → ⊥
        something (inl q) = let z : ◌≡◌ {A = ℕ} 0 1 = cc (e, q) in omega arith
        something (inr q) = let z : ◌≡◌ {A = ℕ} 0 1 = cc (f, q) in omega arith

        like : u ≡ t → ShowsUnlike shapes kinds r → ⊥
        like q m = let a = m.2 in let b = m.3 in let s : m.0 ≡ m.1 = cc in m.4 s

        go : (b : Bool) → same_type t u ≡ b → Determined Shown (cond b None (Some 6))
        go true q = passing 6 (ShowsUnlike shapes kinds r) NoTest None (like (same_type_is t u q)) none_left
        go false q = failing 6 (ShowsUnlike shapes kinds r) NoTest (t, u, e, f, λ s. other_type t u q (sym s))

    pub two_determined : Determined (FailsTwo shapes kinds r) (fault_two shapes kinds r)
    two_determined = go (is_block r.kind) refl
      where
        PinsFail : ℕ → Type 0
        PinsFail n = FailsPins shapes kinds (pins_of (shapes r.kind)) (pins_in r.body) n

        ShowFail : ℕ → Type 0
        ShowFail = Test 5 (ShowsNothing shapes kinds r) Shown

        pins : Option ℕ
        pins = fault_of_pins shapes kinds (pins_of (shapes r.kind)) (pins_in r.body)

        show : Option ℕ
        show = fault_of_output (terminal_type (output_in r.body).terminal) (wire_type shapes kinds (output_in r.body).block (output_in r.body).output)

        go : (b : Bool) → is_block r.kind ≡ b → Determined (FailsTwo shapes kinds r) (cond b pins show)
        go true e = in_first (r.kind ≡ 0 → ⊥) (r.kind ≡ 0) PinsFail ShowFail pins (kind_block r.kind e) (kind_block r.kind e) (pins_determined (pins_of (shapes r.kind)) (pins_in r.body))
        go false e =
            let z = kind_zero r.kind e in
            in_second (r.kind ≡ 0 → ⊥) (r.kind ≡ 0) PinsFail ShowFail show (λ f. f z) z (output_determined (terminal_type (output_in r.body).terminal) (wire_type shapes kinds (output_in r.body).block (output_in r.body).output) refl refl)
