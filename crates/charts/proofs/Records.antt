-- The records of a sound page: they pass both walks, and their page is the page. Assumes nothing.
use Rattle.std.proofs.Common.{◌≡◌, ℕ, suc, ◌+◌, ◌*◌, ◌/◌, ◌%◌, ◌≤◌, true, false, leb, List, [], ◌∷◌, ◌++◌, map, length, Some, None, Option, unwrap_or, sym, refl, ap, ◌∙◌, subst, arith}
use Rattle.std.proofs.lemmas.List.{append_assoc}
use Rattle.std.proofs.lemmas.Bool.{lt-leb}
use Rattle.std.proofs.lemmas.Bool.Decides.{nat_tests}
use Rattle.std.specs.List.{flat_map, AllByRecursion}
use Rattle.signals.proofs.Codings.{coding_faithful}
use Rattle.signals.specs.Coding.{word, encoded, decoded}
use Rattle.signals.specs.Signals.{zero_of}
use Rattle.signals.specs.declared.signal.SignalType.{SignalType}
use Rattle.charts.specs.declared.page.Source.{Source}
use Rattle.charts.specs.declared.page.OutputRecord.{OutputRecord}
use Rattle.charts.specs.Pages.{Block, Page, Shapes, kinds_of}
use Rattle.charts.specs.Charts.{source_bytes, block_bytes, output_bytes, written}
use Rattle.charts.specs.Loading.{Raw, raw_bytes, nothing_met, reached, is_block, body_length, Pin, pins_of, pins_in, source_of, sources_of, blocks_in, outputs_in, kinds_in, page_in, fault_of_type, fault_of_pin, fault_of_pins, fault_two}
use Rattle.charts.specs.Soundness.{Feeds, Fed, SoundBlock, SoundOutput, Rising, Sound}
use Rattle.blocks.proofs.Answered.{same_type_self}
use Rattle.charts.proofs.WalkOne.{AllPass}
use Rattle.charts.proofs.WalkTwo.{FaultlessTwo}
use Rattle.charts.proofs.Formed.{AboveLast}

-- ---- the pins of sources

abbrev pin_of : Source → Pin
pin_of (Source.Constant x) = record { tag = 0; first = word x / 16777216 % 256; second = word x / 65536 % 256; third = word x / 256 % 256; fourth = word x % 256 }
pin_of (Source.Terminal t) = record { tag = 1; first = 0; second = 0; third = 0; fourth = t }
pin_of (Source.Output b o) = record { tag = 2; first = 0; second = 0; third = b; fourth = o }

pins_joined : (xs : List Source) → pins_in (flat_map source_bytes xs) ≡ map pin_of xs
pins_joined [] = refl
pins_joined (Source.Constant x ∷ xs) = ap (λ ps. pin_of (Source.Constant x) ∷ ps) (pins_joined xs)
pins_joined (Source.Terminal t ∷ xs) = ap (λ ps. pin_of (Source.Terminal t) ∷ ps) (pins_joined xs)
pins_joined (Source.Output b o ∷ xs) = ap (λ ps. pin_of (Source.Output b o) ∷ ps) (pins_joined xs)

joined_length : (xs : List Source) → length (flat_map source_bytes xs) ≡ 5 * length xs
joined_length [] = refl
joined_length (Source.Constant x ∷ xs) = let h = joined_length xs in omega arith
joined_length (Source.Terminal t ∷ xs) = let h = joined_length xs in omega arith
joined_length (Source.Output b o ∷ xs) = let h = joined_length xs in omega arith

fits_itself : (t : SignalType) → fault_of_type t (Some t) ≡ None
fits_itself t = rw (same_type_self t)

module _ (shapes : Shapes) (kinds : List ℕ) where
  -- a source that feeds a pin, read back from its bytes
  source_again : (t : SignalType) (x : Source) → Feeds shapes kinds t x → (source_of t (pin_of x) ≡ x) × (fault_of_pin shapes kinds t (pin_of x) ≡ None)
  source_again t (Source.Constant x) f =
      let back : decoded t (encoded x) ≡ Some x = subst (λ u. decoded u (encoded x) ≡ Some x) f.0 (coding_faithful.back x f.2) in
      (ap (λ o. Source.Constant (unwrap_or o (zero_of t))) back, rw (back, f.1))
  source_again t (Source.Terminal n) f = (refl, rw f (fits_itself t))
  source_again t (Source.Output b o) f = (refl, rw f (fits_itself t))

  sources_again : (ts : List SignalType) (xs : List Source) → Fed shapes kinds ts xs
      → (sources_of ts (map pin_of xs) ≡ xs) × (fault_of_pins shapes kinds ts (map pin_of xs) ≡ None) × (length xs ≡ length ts)
  sources_again [] [] f = (refl, refl, refl)
  sources_again [] (x ∷ xs) f = absurd f
  sources_again (t ∷ ts) [] f = absurd f
  sources_again (t ∷ ts) (x ∷ xs) f =
      let one = source_again t x f.0 in
      let rest = sources_again ts xs f.1 in
      (λ i. one.0 i ∷ rest.0 i, rw one.1 rest.1, ap suc rest.2)

-- ---- the records of a page

abbrev block_record : Block → Raw
block_record b = record { kind = b.kind; body = flat_map source_bytes b.pins }

abbrev output_record : OutputRecord → Raw
output_record r = record { kind = 0; body = r.terminal ∷ r.block ∷ r.output ∷ [] }

abbrev pub records_of : Page → List Raw
records_of page = map block_record page.blocks ++ map output_record page.outputs

output_joined : (rs : List OutputRecord) → flat_map raw_bytes (map output_record rs) ≡ flat_map output_bytes rs
output_joined [] = refl
output_joined (r ∷ rs) = ap (λ bytes. output_bytes r ++ bytes) (output_joined rs)

blocks_joined : (bs : List Block) (rs : List OutputRecord) → flat_map raw_bytes (map block_record bs ++ map output_record rs) ≡ flat_map block_bytes bs ++ flat_map output_bytes rs
blocks_joined [] rs = output_joined rs
blocks_joined (b ∷ bs) rs = ap (λ bytes. block_bytes b ++ bytes) (blocks_joined bs rs) ∙ sym (append_assoc (block_bytes b) (flat_map block_bytes bs) (flat_map output_bytes rs))

pub records_written : (page : Page) → flat_map raw_bytes (records_of page) ≡ written page
records_written page = blocks_joined page.blocks page.outputs

kind_is_block : (k : ℕ) → (k ≡ 0 → ⊥) → is_block k ≡ true
kind_is_block k n = grind (arith, nat_tests)

output_kinds : (rs : List OutputRecord) → kinds_in (map output_record rs) ≡ []
output_kinds [] = refl
output_kinds (r ∷ rs) = output_kinds rs

module _ (shapes : Shapes) (kinds : List ℕ) where
  -- what a sound block's record gives back
  record Given (b : Block) : Type 0 where
    is : is_block b.kind ≡ true
    whole : body_length shapes b.kind ≡ Some (length (flat_map source_bytes b.pins))
    again : sources_of (pins_of (shapes b.kind)) (pins_in (flat_map source_bytes b.pins)) ≡ b.pins
    faultless : fault_two shapes kinds (block_record b) ≡ None

  given : (b : Block) → SoundBlock shapes kinds b → Given b
  given b s =
      let y = kind_is_block b.kind s.no_output in
      let h = sources_again shapes kinds s.form.pins b.pins s.fed in
      let l : 5 * length s.form.pins ≡ length (flat_map source_bytes b.pins) = let a = joined_length b.pins in let c = h.2 in omega arith in
      record {
        is = y;
        whole = rw (y, s.formed) (ap Some l);
        again = rw (s.formed, pins_joined b.pins) h.0;
        faultless = rw (y, s.formed, pins_joined b.pins) h.1;
      }

  output_faultless : (r : OutputRecord) → SoundOutput shapes kinds r → fault_two shapes kinds (output_record r) ≡ None
  output_faultless r s = rw (s.exists, s.wired) (fits_itself s.row)

  outputs_faultless : (rs : List OutputRecord) → AllByRecursion (SoundOutput shapes kinds) rs → FaultlessTwo shapes kinds (map output_record rs)
  outputs_faultless [] h = tt
  outputs_faultless (r ∷ rs) h = (output_faultless r h.0, outputs_faultless rs h.1)

  records_faultless : (bs : List Block) (rs : List OutputRecord) → AllByRecursion (SoundBlock shapes kinds) bs → AllByRecursion (SoundOutput shapes kinds) rs → FaultlessTwo shapes kinds (map block_record bs ++ map output_record rs)
  records_faultless [] rs s h = outputs_faultless rs h
  records_faultless (b ∷ bs) rs s h = ((given b s.0).faultless, records_faultless bs rs s.1 h)

  kinds_records : (bs : List Block) (rs : List OutputRecord) → AllByRecursion (SoundBlock shapes kinds) bs → kinds_in (map block_record bs ++ map output_record rs) ≡ map (λ b. b.kind) bs
  kinds_records [] rs s = output_kinds rs
  kinds_records (b ∷ bs) rs s = rw (given b s.0).is (ap (λ ks. b.kind ∷ ks) (kinds_records bs rs s.1))

  output_blocks : (rs : List OutputRecord) → blocks_in shapes (map output_record rs) ≡ []
  output_blocks [] = refl
  output_blocks (r ∷ rs) = output_blocks rs

  output_outputs : (rs : List OutputRecord) → outputs_in (map output_record rs) ≡ rs
  output_outputs [] = refl
  output_outputs (r ∷ rs) = ap (λ xs. r ∷ xs) (output_outputs rs)

  blocks_again : (bs : List Block) (rs : List OutputRecord) → AllByRecursion (SoundBlock shapes kinds) bs → blocks_in shapes (map block_record bs ++ map output_record rs) ≡ bs
  blocks_again [] rs s = output_blocks rs
  blocks_again (b ∷ bs) rs s =
      let g = given b s.0 in
      rw g.is (λ i. record { kind = b.kind; pins = g.again i } ∷ blocks_again bs rs s.1 i)

  outputs_again : (bs : List Block) (rs : List OutputRecord) → AllByRecursion (SoundBlock shapes kinds) bs → outputs_in (map block_record bs ++ map output_record rs) ≡ rs
  outputs_again [] rs s = output_outputs rs
  outputs_again (b ∷ bs) rs s = rw (given b s.0).is (outputs_again bs rs s.1)

  -- ---- walk one

  outputs_pass : (limit n : ℕ) (last : Option ℕ) (rs : List OutputRecord) → AboveLast last rs → Rising rs → AllPass shapes limit (record { blocks = n; last = last }) (map output_record rs)
  outputs_pass limit n last [] a h = tt
  outputs_pass limit n last (r ∷ rs) a h = (record { whole = refl; in_place = below last a; in_limit = refl }, outputs_pass limit n (Some r.terminal) rs h.0 h.1)
    where
      below : (o : Option ℕ) → AboveLast o (r ∷ rs) → reached o r.terminal ≡ false
      below None q = refl
      below (Some u) q = lt-leb r.terminal u q.0

  blocks_pass : (limit n : ℕ) (bs : List Block) (rs : List OutputRecord) → n + length bs ≤ limit → AllByRecursion (SoundBlock shapes kinds) bs → Rising rs
      → AllPass shapes limit (record { blocks = n; last = None }) (map block_record bs ++ map output_record rs)
  blocks_pass limit n [] rs l s h = outputs_pass limit n None rs tt h
  blocks_pass limit n (b ∷ bs) rs l s h =
      let g = given b s.0 in
      let under : leb limit n ≡ false = lt-leb limit n (omega arith) in (
        record { whole = g.whole; in_place = rw g.is; in_limit = rw (g.is, under) },
        rw g.is (blocks_pass limit (suc n) bs rs (omega arith) s.1 h),
      )

-- ---- the whole page

module _ (shapes : Shapes) (limit : ℕ) (page : Page) (s : Sound shapes limit page) where
  pub page_pass : AllPass shapes limit nothing_met (records_of page)
  page_pass = let l = s.few_blocks in blocks_pass shapes (kinds_of page) limit 0 page.blocks page.outputs (omega arith) s.blocks_sound s.rising

  pub page_faultless : FaultlessTwo shapes (kinds_of page) (records_of page)
  page_faultless = records_faultless shapes (kinds_of page) page.blocks page.outputs s.blocks_sound s.outputs_sound

  pub page_kinds : kinds_in (records_of page) ≡ kinds_of page
  page_kinds = kinds_records shapes (kinds_of page) page.blocks page.outputs s.blocks_sound

  pub page_again : page_in shapes (records_of page) ≡ page
  page_again = λ i. record {
    blocks = blocks_again shapes (kinds_of page) page.blocks page.outputs s.blocks_sound i;
    outputs = outputs_again shapes (kinds_of page) page.blocks page.outputs s.blocks_sound i;
  }
