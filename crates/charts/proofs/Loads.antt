-- What load makes of a chart, all together. Assumes nothing.
use Rattle.std.proofs.Common.{◌≡◌, ℕ, ◌≤◌, ◌⊎◌, List, [], ◌∷◌, ◌++◌, length, Some, None, Ok, Err, Option, Result, sym, refl, ap, ◌∙◌, subst, inl, inr, arith}
use Rattle.std.proofs.lemmas.List.{length-map}
use Rattle.std.specs.List.{flat_map, AllByRecursion}
use Rattle.charts.specs.Pages.{Page, Shapes, kinds_of}
use Rattle.charts.specs.Charts.{Bytes, written}
use Rattle.charts.specs.Loading.{Fault, Raw, raw_bytes, nothing_met, walk_one, walk_two, kinds_in, blocks_in, page_in, after_one, after_two, with_blocks, load}
use Rattle.charts.specs.Soundness.{Sound}
use Rattle.charts.specs.Laws.{LoadingLaw}
use Rattle.charts.proofs.WalkOne.{AllPass, Walked, walked, load_records}
use Rattle.charts.proofs.WalkTwo.{FaultlessTwo, faultless_walk, walk_faultless}
use Rattle.charts.proofs.Faulted.{refused_fault, fault_refused}
use Rattle.charts.proofs.Formed.{Formed, HeldBlock, formed_sound, kinds_blocks, all_formed, all_rising, few, all_back}
use Rattle.charts.proofs.Records.{records_of, records_written, page_pass, page_faultless, page_kinds, page_again}

-- ---- a sound page's chart

with_faultless : (shapes : Shapes) (rs : List Raw) (ks : List ℕ) → 1 ≤ length ks → FaultlessTwo shapes ks rs → with_blocks shapes rs ks ≡ Ok (page_in shapes rs)
with_faultless shapes rs [] l f = absurd (omega arith)
with_faultless shapes rs (k ∷ ks) l f = rw (walk_faultless shapes (k ∷ ks) 0 rs f)

pub sound_loads : (shapes : Shapes) (limit : ℕ) (page : Page) → Sound shapes limit page → load shapes limit (written page) ≡ Ok page
sound_loads shapes limit page s =
    let rs = records_of page in
    let l = s.some_blocks in
    let m = length-map page.blocks (λ b. b.kind) in
    ap (load shapes limit) (sym (records_written page))
    ∙ load_records shapes limit rs (page_pass shapes limit page s)
    ∙ ap (with_blocks shapes rs) (page_kinds shapes limit page s)
    ∙ with_faultless shapes rs (kinds_of page) (omega arith) (page_faultless shapes limit page s)
    ∙ ap Ok (page_again shapes limit page s)

-- ---- an accepted chart

bytes_parts : (xs ys : List ℕ) → Bytes (xs ++ ys) → Bytes xs × Bytes ys
bytes_parts [] ys h = (tt, h)
bytes_parts (x ∷ xs) ys h = let p = bytes_parts xs ys h.1 in ((h.0, p.0), p.1)

bodies : (rs : List Raw) → Bytes (flat_map raw_bytes rs) → AllByRecursion (λ r. Bytes r.body) rs
bodies [] h = tt
bodies (r ∷ rs) h = let p = bytes_parts r.body (flat_map raw_bytes rs) h.1 in (p.0, bodies rs p.1)

-- the records of an accepted chart
record Accepted (shapes : Shapes) (limit : ℕ) (chart : List ℕ) (page : Page) : Type 0 where
  records : List Raw
  passed : AllPass shapes limit nothing_met records
  chart_is : chart ≡ flat_map raw_bytes records
  some_blocks : 1 ≤ length (kinds_in records)
  faultless : FaultlessTwo shapes (kinds_in records) records
  page_is : page_in shapes records ≡ page

module _ (shapes : Shapes) (limit : ℕ) (chart : List ℕ) (page : Page) where
  accepted : load shapes limit chart ≡ Ok page → Accepted shapes limit chart page
  accepted e = go (walk_one shapes limit nothing_met 0 0 chart) (walked shapes limit (length chart) nothing_met 0 chart (omega arith)) e
    where
      two : (rs : List Raw) → Walked shapes limit nothing_met 0 chart (Ok rs) → (k : ℕ) (ks : List ℕ) → kinds_in rs ≡ k ∷ ks → (o : Option Fault) → walk_two shapes (k ∷ ks) 0 rs ≡ o → after_two (page_in shapes rs) o ≡ Ok page
          → Accepted shapes limit chart page
      two rs w k ks q (Some f) t h = let z : ◌≡◌ {A = ℕ} 0 1 = cc (h) in absurd (omega arith)
      two rs w k ks q None t h =
          let l = ap length q in
          record {
            records = rs;
            passed = w.0;
            chart_is = w.1;
            some_blocks = omega arith;
            faultless = faultless_walk shapes (kinds_in rs) 0 rs (ap (λ xs. walk_two shapes xs 0 rs) q ∙ t);
            page_is = cc (h);
          }

      blocks : (rs : List Raw) → Walked shapes limit nothing_met 0 chart (Ok rs) → (ks : List ℕ) → kinds_in rs ≡ ks → with_blocks shapes rs ks ≡ Ok page → Accepted shapes limit chart page
      blocks rs w [] q h = let z : ◌≡◌ {A = ℕ} 0 1 = cc (h) in absurd (omega arith)
      blocks rs w (k ∷ ks) q h = two rs w k ks q (walk_two shapes (k ∷ ks) 0 rs) refl h

      go : (w : Result (List Raw) Fault) → Walked shapes limit nothing_met 0 chart w → after_one shapes w ≡ Ok page → Accepted shapes limit chart page
      go (Err f) w h = let z : ◌≡◌ {A = ℕ} 0 1 = cc (h) in absurd (omega arith)
      go (Ok rs) w h = blocks rs w (kinds_in rs) refl h

  formed_records : Accepted shapes limit chart page → Formed shapes limit page
  formed_records a =
      let rs = a.records in
      let same = kinds_blocks shapes rs in
      let m = length-map (blocks_in shapes rs) (λ b. b.kind) in
      let n = ap length same in
      let some = a.some_blocks in
      let under = few shapes limit nothing_met rs a.passed (omega arith) in
      let f = all_formed shapes limit (kinds_in rs) nothing_met rs a.passed a.faultless in
      subst (Formed shapes limit) a.page_is (record {
        some_blocks = omega arith;
        few_blocks = omega arith;
        blocks_formed = rw same f.0;
        outputs_sound = rw same f.1;
        rising = (all_rising shapes limit nothing_met rs a.passed).0;
      })

  -- An accepted page is sound, but for constants that the machine may not hold.
  pub loaded_formed : load shapes limit chart ≡ Ok page → Formed shapes limit page
  loaded_formed e = formed_records (accepted e)

  back : Bytes chart → Accepted shapes limit chart page → AllByRecursion HeldBlock page.blocks × (written page ≡ chart)
  back h a =
      let rs = a.records in
      let b = all_back shapes limit (kinds_in rs) nothing_met rs a.passed a.faultless (bodies rs (subst Bytes a.chart_is h)) in
      subst (λ p. AllByRecursion HeldBlock p.blocks × (written p ≡ chart)) a.page_is (b.1, b.0 ∙ sym a.chart_is)

  pub loaded_sound : Bytes chart → load shapes limit chart ≡ Ok page → Sound shapes limit page
  loaded_sound h e = formed_sound shapes limit page (loaded_formed e) (back h (accepted e)).0

  pub loaded_written : Bytes chart → load shapes limit chart ≡ Ok page → written page ≡ chart
  loaded_written h e = (back h (accepted e)).1

-- ---- the law

load_decided : (r : Result Page Fault) → ((page : Page) × (r ≡ Ok page)) ⊎ ((f : Fault) × (r ≡ Err f))
load_decided (Ok page) = inl (page, refl)
load_decided (Err f) = inr (f, refl)

pub loading_law : LoadingLaw
loading_law shapes limit chart h = record {
  accepted_sound = λ page e. (loaded_sound shapes limit chart page h e, loaded_written shapes limit chart page h e);
  sound_accepted = λ page s e. ap (load shapes limit) (sym e) ∙ sound_loads shapes limit page s;
  refused_fault = refused_fault shapes limit chart;
  fault_refused = fault_refused shapes limit chart;
  decided = load_decided (load shapes limit chart);
}
