-- Pins and sources: what a pin without a fault is fed, and its bytes. Assumes nothing.
use Rattle.std.proofs.Common.{◌≡◌, ℕ, ◌*◌, Bool, true, false, cond, ◌&&◌, eqb, List, [], ◌∷◌, ◌++◌, length, Some, None, Option, unwrap_or, sym, refl, ap, ◌∙◌, arith, w32, to_z}
use lib.Ieee.{nan, binary32, of_bits}
use Rattle.std.proofs.lemmas.Bool.{eqb-true, false≢true}
use Rattle.std.proofs.lemmas.List.{nil_from_length}
use Rattle.std.specs.List.{flat_map, AllByRecursion}
use Rattle.signals.proofs.Codings.{coding_faithful}
use Rattle.signals.specs.Coding.{word_of, in_int, at_type, decoded, FourBytes}
use Rattle.signals.specs.Signals.{type_of, zero_of, clean, Held}
use Rattle.signals.specs.Terminals.{terminal_type}
use Rattle.signals.specs.declared.signal.Signal.{Signal}
use Rattle.signals.specs.declared.signal.SignalType.{SignalType}
use Rattle.blocks.specs.Meanings.{same_type}
use Rattle.charts.specs.declared.page.Source.{Source}
use Rattle.charts.specs.Pages.{Shapes, wire_type}
use Rattle.charts.specs.Charts.{Bytes, source_bytes}
use Rattle.charts.specs.Loading.{Pin, pin_bytes, pins_in, source_of, sources_of, fault_of_type, fault_of_constant, fault_of_pin, first_of, fault_of_pins}
use Rattle.blocks.proofs.Answered.{same_type_is}
use Rattle.charts.proofs.FaultTwo.{all_zero, both_zero}

-- A source feeds a pin of type t; a constant need not be one that the machine holds.
abbrev pub Supplies : Shapes → List ℕ → SignalType → Source → Type 0
Supplies shapes kinds t (Source.Constant x) = (type_of x ≡ t) × (clean x ≡ true)
Supplies shapes kinds t (Source.Terminal n) = terminal_type n ≡ Some t
Supplies shapes kinds t (Source.Output b o) = wire_type shapes kinds b o ≡ Some t

-- as many sources as pins, each feeding its pin
abbrev pub Supplied : Shapes → List ℕ → List SignalType → List Source → Type 0
Supplied shapes kinds [] [] = Unit {0}
Supplied shapes kinds [] (x ∷ xs) = ⊥
Supplied shapes kinds (t ∷ ts) [] = ⊥
Supplied shapes kinds (t ∷ ts) (x ∷ xs) = Supplies shapes kinds t x × Supplied shapes kinds ts xs

abbrev pub HeldSource : Source → Type 0
HeldSource (Source.Constant x) = Held x
HeldSource (Source.Terminal n) = Unit {0}
HeldSource (Source.Output b o) = Unit {0}

never : {P : Type 0} (n : ℕ) → Some n ≡ None → P
never n e = let z : ◌≡◌ {A = ℕ} 0 1 = cc (e) in absurd (omega arith)

type_at : (t : SignalType) (n : ℕ) (x : Signal) → at_type t n ≡ Some x → type_of x ≡ t
type_at SignalType.Bool n x e = go (eqb n 0) (eqb n 1) e
  where
    go : (a b : Bool) → cond a (Some (Signal.Bool false)) (cond b (Some (Signal.Bool true)) None) ≡ Some x → type_of x ≡ SignalType.Bool
    go true b q = let s : x ≡ Signal.Bool false = cc (q) in ap type_of s
    go false true q = let s : x ≡ Signal.Bool true = cc (q) in ap type_of s
    go false false q = let z : ◌≡◌ {A = ℕ} 0 1 = cc (q) in absurd (omega arith)
type_at SignalType.Int n x e = go (in_int (to_z w32 n)) e
  where
    go : (a : Bool) → cond a (Some (Signal.Int (to_z w32 n))) None ≡ Some x → type_of x ≡ SignalType.Int
    go true q = let s : x ≡ Signal.Int (to_z w32 n) = cc (q) in ap type_of s
    go false q = let z : ◌≡◌ {A = ℕ} 0 1 = cc (q) in absurd (omega arith)
type_at SignalType.Dint n x e = let s : x ≡ Signal.Dint (to_z w32 n) = cc in ap type_of s
type_at SignalType.Real n x e = let s : x ≡ Signal.Real (of_bits binary32 n) = cc in ap type_of s

no_nan : (x : Signal) → clean x ≡ true → x ≡ Signal.Real nan → ⊥
no_nan x c e = false≢true (sym (ap clean e) ∙ c)

-- ---- one pin

pub fitting : (t : SignalType) (o : Option SignalType) → fault_of_type t o ≡ None → o ≡ Some t
fitting t None e = never 5 e
fitting t (Some u) e = go (same_type t u) refl e
  where
    go : (b : Bool) → same_type t u ≡ b → cond {A = Option ℕ} b None (Some 6) ≡ None → Some u ≡ Some t
    go true q f = ap Some (same_type_is t u q)
    go false q f = never 6 f

fixed : (b : Bool) (o : Option ℕ) → cond b o (Some 4) ≡ None → (b ≡ true) × (o ≡ None)
fixed true o e = (refl, e)
fixed false o e = never 4 e

-- a constant without a fault
decodes : (o : Option Signal) (d : Signal) → fault_of_constant o ≡ None → (o ≡ Some (unwrap_or o d)) × (clean (unwrap_or o d) ≡ true)
decodes None d e = never 7 e
decodes (Some x) d e = go (clean x) refl e
  where
    go : (b : Bool) → clean x ≡ b → cond {A = Option ℕ} b None (Some 7) ≡ None → (Some x ≡ Some x) × (clean x ≡ true)
    go true q f = (refl, q)
    go false q f = never 7 f

module _ (shapes : Shapes) (kinds : List ℕ) (t : SignalType) (p : Pin) where
  abbrev tests : Bool → Bool → Bool → Option ℕ
  tests a b c =
      cond a (fault_of_constant (decoded t (pin_bytes p)))
      (cond b (cond (eqb p.first 0 && eqb p.second 0 && eqb p.third 0) (fault_of_type t (terminal_type p.fourth)) (Some 4))
      (cond c (cond (eqb p.first 0 && eqb p.second 0) (fault_of_type t (wire_type shapes kinds p.third p.fourth)) (Some 4)) (Some 4)))

  abbrev sources : Bool → Bool → Source
  sources a b = cond a (Source.Constant (unwrap_or (decoded t (pin_bytes p)) (zero_of t))) (cond b (Source.Terminal p.fourth) (Source.Output p.third p.fourth))

  pin_supplies : fault_of_pin shapes kinds t p ≡ None → Supplies shapes kinds t (source_of t p)
  pin_supplies e = go (eqb p.tag 0) (eqb p.tag 1) (eqb p.tag 2) e
    where
      go : (a b c : Bool) → tests a b c ≡ None → Supplies shapes kinds t (sources a b)
      go true b c q = let d = decodes (decoded t (pin_bytes p)) (zero_of t) q in (type_at t (word_of (pin_bytes p)) (unwrap_or (decoded t (pin_bytes p)) (zero_of t)) d.0, d.1)
      go false true c q = fitting t (terminal_type p.fourth) (fixed (eqb p.first 0 && eqb p.second 0 && eqb p.third 0) (fault_of_type t (terminal_type p.fourth)) q).1
      go false false true q = fitting t (wire_type shapes kinds p.third p.fourth) (fixed (eqb p.first 0 && eqb p.second 0) (fault_of_type t (wire_type shapes kinds p.third p.fourth)) q).1
      go false false false q = never 4 q

  pin_back : FourBytes (pin_bytes p) → fault_of_pin shapes kinds t p ≡ None → (source_bytes (source_of t p) ≡ p.tag ∷ pin_bytes p) × HeldSource (source_of t p)
  pin_back four e = go (eqb p.tag 0) (eqb p.tag 1) (eqb p.tag 2) refl refl refl e
    where
      go : (a b c : Bool) → eqb p.tag 0 ≡ a → eqb p.tag 1 ≡ b → eqb p.tag 2 ≡ c → tests a b c ≡ None → (source_bytes (sources a b) ≡ p.tag ∷ pin_bytes p) × HeldSource (sources a b)
      go true b c x y w q =
          let v = unwrap_or (decoded t (pin_bytes p)) (zero_of t) in
          let d = decodes (decoded t (pin_bytes p)) (zero_of t) q in
          let z = eqb-true p.tag 0 x in
          let again = coding_faithful.again t (pin_bytes p) v four d.0 (no_nan v d.1) in
          (λ i. sym z i ∷ again i, (coding_faithful.typed t (pin_bytes p) v four d.0).1)
      go false true c x y w q =
          let z = eqb-true p.tag 1 y in
          let f = all_zero p.first p.second p.third (fixed (eqb p.first 0 && eqb p.second 0 && eqb p.third 0) (fault_of_type t (terminal_type p.fourth)) q).0 in
          (λ i. sym z i ∷ sym f.0 i ∷ sym f.1 i ∷ sym f.2 i ∷ p.fourth ∷ [], tt)
      go false false true x y w q =
          let z = eqb-true p.tag 2 w in
          let f = both_zero p.first p.second (fixed (eqb p.first 0 && eqb p.second 0) (fault_of_type t (wire_type shapes kinds p.third p.fourth)) q).0 in
          (λ i. sym z i ∷ sym f.0 i ∷ sym f.1 i ∷ p.third ∷ p.fourth ∷ [], tt)
      go false false false x y w q = never 4 q

-- ---- the pins of a body

firstly : (a b : Option ℕ) → first_of a b ≡ None → (a ≡ None) × (b ≡ None)
firstly None b e = (refl, e)
firstly (Some n) b e = never n e

module _ (shapes : Shapes) (kinds : List ℕ) where
  pub body_supplies : (ts : List SignalType) (body : List ℕ) → length body ≡ 5 * length ts → fault_of_pins shapes kinds ts (pins_in body) ≡ None → Supplied shapes kinds ts (sources_of ts (pins_in body))
  body_supplies [] body l e = tt
  body_supplies (t ∷ ts) [] l e = absurd (omega arith)
  body_supplies (t ∷ ts) (g ∷ []) l e = absurd (omega arith)
  body_supplies (t ∷ ts) (g ∷ a ∷ []) l e = absurd (omega arith)
  body_supplies (t ∷ ts) (g ∷ a ∷ b ∷ []) l e = absurd (omega arith)
  body_supplies (t ∷ ts) (g ∷ a ∷ b ∷ c ∷ []) l e = absurd (omega arith)
  body_supplies (t ∷ ts) (g ∷ a ∷ b ∷ c ∷ d ∷ more) l e =
      let p : Pin = record { tag = g; first = a; second = b; third = c; fourth = d } in
      let f = firstly (fault_of_pin shapes kinds t p) (fault_of_pins shapes kinds ts (pins_in more)) e in
      (pin_supplies shapes kinds t p f.0, body_supplies ts more (omega arith) f.1)

  pub body_back : (ts : List SignalType) (body : List ℕ) → length body ≡ 5 * length ts → Bytes body → fault_of_pins shapes kinds ts (pins_in body) ≡ None
      → (flat_map source_bytes (sources_of ts (pins_in body)) ≡ body) × AllByRecursion HeldSource (sources_of ts (pins_in body))
  body_back [] body l h e = (sym (nil_from_length body l), tt)
  body_back (t ∷ ts) [] l h e = absurd (omega arith)
  body_back (t ∷ ts) (g ∷ []) l h e = absurd (omega arith)
  body_back (t ∷ ts) (g ∷ a ∷ []) l h e = absurd (omega arith)
  body_back (t ∷ ts) (g ∷ a ∷ b ∷ []) l h e = absurd (omega arith)
  body_back (t ∷ ts) (g ∷ a ∷ b ∷ c ∷ []) l h e = absurd (omega arith)
  body_back (t ∷ ts) (g ∷ a ∷ b ∷ c ∷ d ∷ more) l h e =
      let p : Pin = record { tag = g; first = a; second = b; third = c; fourth = d } in
      let f = firstly (fault_of_pin shapes kinds t p) (fault_of_pins shapes kinds ts (pins_in more)) e in
      let one = pin_back shapes kinds t p (refl, (h.1.0, (h.1.1.0, (h.1.1.1.0, (h.1.1.1.1.0, tt))))) f.0 in
      let rest = body_back ts more (omega arith) h.1.1.1.1.1 f.1 in
      ((λ i. one.0 i ++ rest.0 i), (one.1, rest.1))
