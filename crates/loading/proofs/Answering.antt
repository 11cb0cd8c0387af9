-- What load answers, from what the walks and the builder answer. Assumes nothing.
use Rattle.std.proofs.Common.{◌≡◌, ℕ, suc, ◌≤◌, List, [], ◌∷◌, map, length, get_or, IsErrAnd, Ok, Err, vec_items, Result, Vec, sym, refl, ap, ◌∙◌, subst, arith, w8, Fits}
use Rattle.std.proofs.lemmas.Result.{err_from_is_err_and}
use Rattle.std.specs.declared.alloc.Global.{Global}
use Rattle.blocks.specs.Meanings.{Meaning}
use Rattle.charts.specs.Boxes.{starting}
use Rattle.charts.specs.Pages as Pages
use Rattle.charts.specs.Charts.{Bytes}
use Rattle.charts.specs.Loading as Loading
use Rattle.charts.proofs.Faulted.{refused_fault}
use Rattle.charts.proofs.Loads.{loaded_sound, loaded_written}
use Rattle.loading.specs.Built.{Built}
use Rattle.loading.specs.FaultNumbers.{fault_number}
use Rattle.loading.specs.Loaded.{Loaded, Means, WalkedOne}
use Rattle.loading.specs.Models.{page_model, cells_model}
use Rattle.loading.specs.Walks.{WalkedTwo}
use Rattle.loading.specs.declared.fault.Fault.{Fault}
use Rattle.loading.specs.declared.fault.LoadError.{LoadError}
use Rattle.loading.specs.declared.page.Page.{Page}

-- what a slice of bytes holds are bytes
pub bytes_fit : (xs : List ℕ) → ((i : ℕ) → Fits w8 (get_or xs i 0)) → Bytes xs
bytes_fit [] h = tt
bytes_fit (x ∷ xs) h = let f : Fits w8 x = h 0 in (omega arith, bytes_fit xs (λ i. h (suc i)))

module _ (m : Meaning) (chart : List ℕ) where
  at_fault : (f : Fault) (place : ℕ) → Loading.load m.shape Pages.block_limit chart ≡ Err (fault_number f, place) → Loaded m chart (Err (LoadError.Refused f place)) × Means m chart (Err (LoadError.Refused f place))
  at_fault f place e = (e, refused_fault m.shape Pages.block_limit chart (fault_number f, place) e)

  -- walk one refuses, or there is no memory
  refused_by_one : (e : LoadError) → WalkedOne m chart (Err e) → Loaded m chart (Err e) × Means m chart (Err e)
  refused_by_one (LoadError.Refused f place) h = at_fault f place h
  refused_by_one LoadError.Memory h = (tt, tt)

  pub one_refused : (e : LoadError) (r : Result Page LoadError) → WalkedOne m chart (Err e) → IsErrAnd r (λ d. d ≡ e) → Loaded m chart r × Means m chart r
  one_refused e r h q = let p = err_from_is_err_and r q in subst (λ x. Loaded m chart x × Means m chart x) (sym (p.1 ∙ ap Err p.2)) (refused_by_one e h)

  -- walk one has passed
  module _ (ks : Vec ℕ Global) (kinds : List ℕ) (kinds_are : kinds ≡ vec_items ks) (passed : WalkedOne m chart (Ok ks)) where
    with_kinds : (rs : List Loading.Raw) (xs : List ℕ) → 1 ≤ length xs → Loading.with_blocks m.shape rs xs ≡ Loading.after_two (Loading.page_in m.shape rs) (Loading.walk_two m.shape xs 0 rs)
    with_kinds rs [] l = absurd (omega arith)
    with_kinds rs (x ∷ xs) l = refl

    by_two : Loading.load m.shape Pages.block_limit chart ≡ Loading.after_two (Loading.page_in m.shape passed.0) (Loading.walk_two m.shape kinds 0 passed.0)
    by_two =
        let rs = passed.0 in
        ap (Loading.after_one m.shape) passed.1
        ∙ ap (Loading.with_blocks m.shape rs) passed.2
        ∙ with_kinds rs (vec_items ks) passed.3
        ∙ ap (λ xs. Loading.after_two (Loading.page_in m.shape rs) (Loading.walk_two m.shape xs 0 rs)) (sym kinds_are)

    pub two_refused : (e : LoadError) → WalkedTwo m kinds chart (Err e) → (r : Result Page LoadError) → IsErrAnd r (λ d. d ≡ e) → Loaded m chart r × Means m chart r
    two_refused (LoadError.Refused f place) h r by =
        let p = err_from_is_err_and r by in
        let loads = by_two ∙ ap (Loading.after_two (Loading.page_in m.shape passed.0)) (h passed.0 passed.1) in
        subst (λ x. Loaded m chart x × Means m chart x) (sym (p.1 ∙ ap Err p.2)) (at_fault f place loads)
    two_refused LoadError.Memory h r by = absurd h

    pub accepted : (u : Unit {0}) → WalkedTwo m kinds chart (Ok u) → Bytes chart → (p : Page)
        → ((rs : List Loading.Raw) → Loading.walk_one m.shape Pages.block_limit Loading.nothing_met 0 0 chart ≡ Ok rs → Built m rs p) → Loaded m chart (Ok p) × Means m chart (Ok p)
    accepted u h b p built =
        let page = Loading.page_in m.shape passed.0 in
        let MadeSo = built passed.0 passed.1 in
        let loads : Loading.load m.shape Pages.block_limit chart ≡ Ok (page_model p) = by_two ∙ ap (Loading.after_two page) (h passed.0 passed.1) ∙ ap Ok (sym MadeSo.0) in
        let cells : cells_model p ≡ map (λ x. starting m x.kind) (page_model p).blocks = MadeSo.1 ∙ ap (λ q. map (λ x. starting m x.kind) q.blocks) (sym MadeSo.0) in
        ((loads, cells), (loaded_sound m.shape Pages.block_limit chart (page_model p) b loads, loaded_written m.shape Pages.block_limit chart (page_model p) b loads))
