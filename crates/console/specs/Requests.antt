-- Requests: calls on a box in bytes. Assumes nothing.
use Rattle.std.specs.Prelude.{◌≡◌, ℕ, cond, List, [], ◌∷◌, length, drop, Some, None, Option, ◌==◌, nat_lt, slice_index}
use Rattle.console.specs.declared.read.Ending.{Ending}
use Rattle.console.specs.declared.request.Request.{Request}

-- how many bytes stand behind the letter
abbrev pub body_length : Request → ℕ
body_length (Request.Sample t code) = 5
body_length (Request.Tune b p code) = 6
body_length Request.Cycle = 0
body_length Request.Restart = 0
body_length (Request.Read b o) = 2
body_length (Request.Show t) = 1

-- four bytes of a body, from a place on
abbrev pub code_at : ℕ → ℕ → ℕ → ℕ → List ℕ → List ℕ
code_at i j k l body = slice_index body i ∷ slice_index body j ∷ slice_index body k ∷ slice_index body l ∷ []

-- a request, where the bytes behind the letter are enough for it
abbrev pub whole : ℕ → List ℕ → Request → Option Request
whole n body q = cond (nat_lt (length body) n) None (Some q)

-- The request that a letter and the bytes behind it begin with: S, T, C, R, G or O; none where the letter is unknown or the bytes are too few.
abbrev pub request_of : ℕ → List ℕ → Option Request
request_of letter body =
    cond (letter == 0x53) (whole 5 body (Request.Sample (slice_index body 0) (code_at 1 2 3 4 body)))
    (cond (letter == 0x54) (whole 6 body (Request.Tune (slice_index body 0) (slice_index body 1) (code_at 2 3 4 5 body)))
    (cond (letter == 0x43) (Some Request.Cycle)
    (cond (letter == 0x52) (Some Request.Restart)
    (cond (letter == 0x47) (whole 2 body (Request.Read (slice_index body 0) (slice_index body 1)))
    (cond (letter == 0x4F) (whole 1 body (Request.Show (slice_index body 0)))
    None)))))

-- The requests that bytes hold, one behind the other, and whether an unknown or cut one ends them.
pub data Reads : List ℕ → List Request → Ending → Type 0 where
  all : Reads [] [] Ending.Whole
  stop : {letter : ℕ} {body : List ℕ} → request_of letter body ≡ None → Reads (letter ∷ body) [] Ending.Stopped
  next : {letter : ℕ} {body : List ℕ} {q : Request} {qs : List Request} {ending : Ending}
      → request_of letter body ≡ Some q → Reads (drop (body_length q) body) qs ending → Reads (letter ∷ body) (q ∷ qs) ending
