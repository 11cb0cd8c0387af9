-- What is printed for the box made of an accepted chart. Assumes nothing.
use Rattle.std.proofs.Common.{◌≡◌, ℕ, List, IfOk, Ok, Err, Result, inl}
use Rattle.blocks.specs.Meanings.{Meaning, Lawful}
use Rattle.charts.specs.Pages.{Page, block_limit}
use Rattle.charts.specs.Loading.{load}
use Rattle.charts.specs.Boxes.{made}
use Rattle.charts.proofs.Independence.{cells_by_upstream}
use Rattle.console.specs.Sessions.{Talked, Transcribed, calls_of}

pub told : {S E : Type 0} (m : Meaning) → Lawful m → (chart bytes : List ℕ) (page : Page) → load m.shape block_limit chart ≡ Ok page → (text : S → List ℕ) (r : Result S E)
    → IfOk r (λ s. Talked m (made m page) bytes (text s)) → IfOk r (λ s. Transcribed m chart bytes (text s))
told m law chart bytes page accepted text (Ok s) talked =
    inl (record {
      page = page;
      accepted = accepted;
      talked = talked;
      independent = λ n other alike. cells_by_upstream m law block_limit chart page accepted (calls_of m (made m page) talked.requests) n other alike;
    })
told m law chart bytes page accepted text (Err e) h = tt
