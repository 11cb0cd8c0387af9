-- The first fault of a chart, as a relation: whole faultless records, then the faulty one. Assumes nothing.
use Rattle.std.specs.Prelude.{◌≡◌, ℕ, ◌<◌, ◌≤◌, true, ◌⊎◌, List, [], ◌∷◌, ◌++◌, length, Some, None, Option, ◌≢◌, slice_index}
use Rattle.std.specs.List.{flat_map}
use Rattle.signals.specs.Coding.{decoded}
use Rattle.signals.specs.Signals.{clean}
use Rattle.signals.specs.Terminals.{terminal_type}
use Rattle.signals.specs.declared.signal.Signal.{Signal}
use Rattle.signals.specs.declared.signal.SignalType.{SignalType}
use Rattle.charts.specs.Pages.{Shapes, wire_type}
use Rattle.charts.specs.Loading.{Fault, Raw, raw_bytes, Pin, pin_bytes, pins_in, output_in, pins_of, body_length, kinds_in}

-- Tests in their order: n is the number of this test and it fails, or this test passes and the others give n.
abbrev pub Test : ℕ → Type 0 → (ℕ → Type 0) → ℕ → Type 0
Test number fails others n = ((n ≡ number) × fails) ⊎ ((fails → ⊥) × others n)

-- no test is left
abbrev pub NoTest : ℕ → Type 0
NoTest n = ⊥

-- ---- walk one: tests 2, 1, 8, 3 of a record that begins `kind ∷ rest`, behind the records before it

-- the records that set an output terminal, and the blocks
abbrev pub IsOutputRecord : Raw → Type 0
IsOutputRecord r = r.kind ≡ 0

pub data Among (P : Raw → Type 0) : List Raw → Type 0 where
  here : {r : Raw} {rs : List Raw} → P r → Among P (r ∷ rs)
  later : {r : Raw} {rs : List Raw} → Among P rs → Among P (r ∷ rs)

-- a kind without a shape, 0 aside
abbrev pub Unknown : Shapes → ℕ → Type 0
Unknown shapes kind = body_length shapes kind ≡ None

-- fewer bytes follow than the body has
abbrev pub IsCutShort : Shapes → ℕ → List ℕ → Type 0
IsCutShort shapes kind rest = (n : ℕ) × (body_length shapes kind ≡ Some n) × (length rest < n)

-- a block behind an output record, or an output record whose terminal is not above that of one before it
abbrev pub Misplaced : List Raw → ℕ → List ℕ → Type 0
Misplaced before kind rest =
    ((kind ≢ 0) × Among IsOutputRecord before)
    ⊎ ((kind ≡ 0) × Among (λ r. IsOutputRecord r × (slice_index rest 0 ≤ slice_index r.body 0)) before)

-- a block behind as many blocks as the limit allows
abbrev pub OneTooMany : ℕ → List Raw → ℕ → Type 0
OneTooMany limit before kind = (kind ≢ 0) × (limit ≤ length (kinds_in before))

abbrev pub FailsOne : Shapes → ℕ → List Raw → ℕ → List ℕ → ℕ → Type 0
FailsOne shapes limit before kind rest = Test 2 (Unknown shapes kind) (Test 1 (IsCutShort shapes kind rest) (Test 8 (Misplaced before kind rest) (Test 3 (OneTooMany limit before kind) NoTest)))

-- a whole record, with all its body, that fails no test of walk one
pub record PassesOne (shapes : Shapes) (limit : ℕ) (before : List Raw) (r : Raw) : Type 0 where
  pub whole : body_length shapes r.kind ≡ Some (length r.body)
  pub in_place : Misplaced before r.kind r.body → ⊥
  pub in_limit : OneTooMany limit before r.kind → ⊥

-- each record passes, behind those before it
pub data AllPassOne (shapes : Shapes) (limit : ℕ) : List Raw → Type 0 where
  none : AllPassOne shapes limit []
  more : {rs : List Raw} {r : Raw} → AllPassOne shapes limit rs → PassesOne shapes limit rs r → AllPassOne shapes limit (rs ++ r ∷ [])

-- ---- walk two: tests 4, 5, 6, 7 of a pin, and 5, 6 of an output record

-- a tag above 2, or a fixed zero byte that is not 0
abbrev pub Malformed : Pin → Type 0
Malformed p =
    (2 < p.tag)
    ⊎ (((p.tag ≡ 1) × ((p.first ≡ 0) × (p.second ≡ 0) × (p.third ≡ 0) → ⊥)) ⊎ ((p.tag ≡ 2) × ((p.first ≡ 0) × (p.second ≡ 0) → ⊥)))

-- the type that a wired pin is fed, none where the terminal, the block or the output is missing
pub data WiredTo (shapes : Shapes) (kinds : List ℕ) (p : Pin) : Option SignalType → Type 0 where
  terminal : p.tag ≡ 1 → WiredTo shapes kinds p (terminal_type p.fourth)
  output : p.tag ≡ 2 → WiredTo shapes kinds p (wire_type shapes kinds p.third p.fourth)

abbrev pub Missing : Shapes → List ℕ → Pin → Type 0
Missing shapes kinds p = (o : Option SignalType) × WiredTo shapes kinds p o × (o ≡ None)

abbrev pub Unlike : Shapes → List ℕ → SignalType → Pin → Type 0
Unlike shapes kinds t p = (o : Option SignalType) × (u : SignalType) × WiredTo shapes kinds p o × (o ≡ Some u) × (u ≢ t)

-- a constant outside its type, or a REAL that is not clean
abbrev pub Unfit : SignalType → Pin → Type 0
Unfit t p = (p.tag ≡ 0) × ((x : Signal) → decoded t (pin_bytes p) ≡ Some x → clean x ≢ true)

abbrev pub FailsPin : Shapes → List ℕ → SignalType → Pin → ℕ → Type 0
FailsPin shapes kinds t p = Test 4 (Malformed p) (Test 5 (Missing shapes kinds p) (Test 6 (Unlike shapes kinds t p) (Test 7 (Unfit t p) NoTest)))

abbrev pub PassesPin : Shapes → List ℕ → SignalType → Pin → Type 0
PassesPin shapes kinds t p = (n : ℕ) → FailsPin shapes kinds t p n → ⊥

-- the first pin that fails a test: those before it pass
pub data FailsPins (shapes : Shapes) (kinds : List ℕ) : List SignalType → List Pin → ℕ → Type 0 where
  this : {t : SignalType} {ts : List SignalType} {p : Pin} {ps : List Pin} {n : ℕ} → FailsPin shapes kinds t p n → FailsPins shapes kinds (t ∷ ts) (p ∷ ps) n
  next : {t : SignalType} {ts : List SignalType} {p : Pin} {ps : List Pin} {n : ℕ} → PassesPin shapes kinds t p → FailsPins shapes kinds ts ps n → FailsPins shapes kinds (t ∷ ts) (p ∷ ps) n

-- the terminal, the block or the output is missing
abbrev pub ShowsNothing : Shapes → List ℕ → Raw → Type 0
ShowsNothing shapes kinds r = (terminal_type (output_in r.body).terminal ≡ None) ⊎ (wire_type shapes kinds (output_in r.body).block (output_in r.body).output ≡ None)

-- the terminal and the output are of two types
abbrev pub ShowsUnlike : Shapes → List ℕ → Raw → Type 0
ShowsUnlike shapes kinds r =
    (t : SignalType) × (u : SignalType) × (terminal_type (output_in r.body).terminal ≡ Some t)
    × (wire_type shapes kinds (output_in r.body).block (output_in r.body).output ≡ Some u) × (t ≢ u)

abbrev pub FailsTwo : Shapes → List ℕ → Raw → ℕ → Type 0
FailsTwo shapes kinds r n =
    ((r.kind ≢ 0) × FailsPins shapes kinds (pins_of (shapes r.kind)) (pins_in r.body) n)
    ⊎ ((r.kind ≡ 0) × Test 5 (ShowsNothing shapes kinds r) (Test 6 (ShowsUnlike shapes kinds r) NoTest) n)

abbrev pub PassesTwo : Shapes → List ℕ → Raw → Type 0
PassesTwo shapes kinds r = (n : ℕ) → FailsTwo shapes kinds r n → ⊥

pub data AllPassTwo (shapes : Shapes) (kinds : List ℕ) : List Raw → Type 0 where
  none : AllPassTwo shapes kinds []
  more : {r : Raw} {rs : List Raw} → PassesTwo shapes kinds r → AllPassTwo shapes kinds rs → AllPassTwo shapes kinds (r ∷ rs)

-- ---- the first fault of a chart

pub data FirstFault (shapes : Shapes) (limit : ℕ) (chart : List ℕ) : Fault → Type 0 where
  -- a record fails in walk one, those before it pass
  in_one : (before : List Raw) (kind : ℕ) (rest : List ℕ) (n : ℕ) → AllPassOne shapes limit before → chart ≡ flat_map raw_bytes before ++ kind ∷ rest
      → FailsOne shapes limit before kind rest n → FirstFault shapes limit chart (n, length (flat_map raw_bytes before))
  -- all records pass walk one, and none is a block
  no_block : (all : List Raw) → AllPassOne shapes limit all → chart ≡ flat_map raw_bytes all → kinds_in all ≡ [] → FirstFault shapes limit chart (9, 0)
  -- all records pass walk one and some are blocks; a record fails in walk two, those before it pass
  in_two : (before : List Raw) (r : Raw) (after : List Raw) (n : ℕ) → AllPassOne shapes limit (before ++ r ∷ after) → chart ≡ flat_map raw_bytes (before ++ r ∷ after)
      → 1 ≤ length (kinds_in (before ++ r ∷ after)) → AllPassTwo shapes (kinds_in (before ++ r ∷ after)) before → FailsTwo shapes (kinds_in (before ++ r ∷ after)) r n
      → FirstFault shapes limit chart (n, length (flat_map raw_bytes before))
