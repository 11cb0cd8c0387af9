-- How long a chart is. Assumes nothing.
use Rattle.std.proofs.Common.{◌≡◌, ℕ, suc, ◌+◌, ◌*◌, ◌^◌, ◌<◌, ◌≤◌, List, [], ◌∷◌, length, sym, refl, ap, mul-zero, mul-suc, arith}
use Rattle.std.specs.List.{flat_map, AllByRecursion}
use Rattle.std.proofs.lemmas.List.{length-append}
use Rattle.signals.specs.declared.signal.SignalType.{SignalType}
use Rattle.blocks.specs.Meanings.{Meaning, Lawful}
use Rattle.charts.specs.declared.page.Source.{Source}
use Rattle.charts.specs.declared.page.OutputRecord.{OutputRecord}
use Rattle.charts.specs.Pages.{Block, Page, Shapes, block_limit, kinds_of}
use Rattle.charts.specs.Charts.{source_bytes, block_bytes, output_bytes, written}
use Rattle.charts.specs.Soundness.{Fed, SoundBlock, SoundOutput, Above, Rising, Sound}
use Rattle.charts.proofs.Typings.{terminal_below}

-- items of one length
joined_length : {X : Type 0} (f : X → List ℕ) (n : ℕ) → ((x : X) → length (f x) ≡ n) → (xs : List X) → length (flat_map f xs) ≡ n * length xs
joined_length f n each [] = sym (mul-zero n)
joined_length f n each (x ∷ xs) = omega (arith, length-append (f x) (flat_map f xs), each x, joined_length f n each xs, mul-suc n (length xs))

source_length : (s : Source) → length (source_bytes s) ≡ 5
source_length (Source.Constant x) = refl
source_length (Source.Terminal t) = refl
source_length (Source.Output b o) = refl

pub sources_length : (xs : List Source) → length (flat_map source_bytes xs) ≡ 5 * length xs
sources_length = joined_length source_bytes 5 source_length

pub outputs_length : (rs : List OutputRecord) → length (flat_map output_bytes rs) ≡ 4 * length rs
outputs_length = joined_length output_bytes 4 (λ r. refl)

-- ---- the chart of a sound page is short

fed_length : (shapes : Shapes) (kinds : List ℕ) (ts : List SignalType) (xs : List Source) → Fed shapes kinds ts xs → length xs ≡ length ts
fed_length shapes kinds [] [] h = refl
fed_length shapes kinds [] (x ∷ xs) h = absurd h
fed_length shapes kinds (t ∷ ts) [] h = absurd h
fed_length shapes kinds (t ∷ ts) (x ∷ xs) h = ap suc (fed_length shapes kinds ts xs h.1)

blocks_below : (m : Meaning) → Lawful m → (kinds : List ℕ) (bs : List Block) → AllByRecursion (SoundBlock m.shape kinds) bs → length (flat_map block_bytes bs) ≤ 41 * length bs
blocks_below m law kinds [] h = omega arith
blocks_below m law kinds (b ∷ bs) h =
    let s = h.0 in
    let few = (law.sized b.kind s.form s.formed).few_pins in
    omega (arith, length-append (block_bytes b) (flat_map block_bytes bs), sources_length b.pins, fed_length m.shape kinds s.form.pins b.pins s.fed, blocks_below m law kinds bs h.1)

outputs_from : (shapes : Shapes) (kinds : List ℕ) (t : ℕ) (rs : List OutputRecord) → t < 32 → Above t rs → AllByRecursion (SoundOutput shapes kinds) rs → Rising rs → t + length rs < 32
outputs_from shapes kinds t [] l a h up = omega arith
outputs_from shapes kinds t (r ∷ rs) l a h up =
    let next = a.0 in
    omega (arith, outputs_from shapes kinds r.terminal rs (terminal_below r.terminal h.0.row h.0.exists) up.0 h.1 up.1)

outputs_few : (shapes : Shapes) (kinds : List ℕ) (rs : List OutputRecord) → AllByRecursion (SoundOutput shapes kinds) rs → Rising rs → length rs ≤ 32
outputs_few shapes kinds [] h up = omega arith
outputs_few shapes kinds (r ∷ rs) h up = omega (arith, outputs_from shapes kinds r.terminal rs (terminal_below r.terminal h.0.row h.0.exists) up.0 h.1 up.1)

pub sound_length : (m : Meaning) → Lawful m → (page : Page) → Sound m.shape block_limit page → length (written page) < 2 ^ 64
sound_length m law page s =
    let blocks = flat_map block_bytes page.blocks in
    let outputs = flat_map output_bytes page.outputs in
    omega (arith, length-append blocks outputs, blocks_below m law (kinds_of page) page.blocks s.blocks_sound, s.few_blocks, outputs_length page.outputs, outputs_few m.shape (kinds_of page) page.outputs s.outputs_sound s.rising)
