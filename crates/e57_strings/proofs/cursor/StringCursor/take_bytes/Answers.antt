use Rattle.std.proofs.Common.{◌≡◌, ◌≤◌, ℕ, ◌+◌, ◌-◌, List, [], ◌++◌, take, drop, length, refl, sym, ap, ap₂, ◌∙◌, arith}
use Rattle.std.proofs.lemmas.List.{drop-drop, length-take-le}
use Rattle.e57_strings.specs.Progress.{Progress, in_prefix, in_string, whole_length, length_taken}
use Rattle.e57_strings.specs.Feeds.{StringEnds, overwritten}
use Rattle.e57_strings.proofs.Prefixes.{as_string}
use Rattle.e57_strings.proofs.cursor.StringCursor.take_bytes.Goals as goal

-- the part that is written, in the words of the contract
put : (out bytes piece : List ℕ) (d k : ℕ) → bytes ≡ take k piece → k ≤ length piece
    → take d out ++ (bytes ++ drop (d + k - d) (drop d out)) ≡ overwritten out d (take k piece)
put out bytes piece d k e within =
    let eight : d + k - d ≡ k = omega arith in
    let long : length (take k piece) ≡ k = length-take-le k piece within in
    ap₂ (λ xs n. take d out ++ (xs ++ drop n (drop d out))) e eight
    ∙ ap (λ xs. take d out ++ (take k piece ++ xs)) (drop-drop k d out ∙ ap (λ n. drop (d + n) out) (sym long))

ended : (p : Progress) (n d : ℕ) (piece old new : List ℕ) (taken : ℕ) → p ≡ in_string n d → taken ≤ length piece → d + taken ≡ n → new ≡ overwritten old d (take taken piece)
    → (n ≡ whole_length p) × StringEnds (whole_length p) (length_taken p) piece taken (in_prefix []) old new
ended p n d piece old new taken e within finished made =
    rw e (refl, record { within = within; finished = finished; next = refl; put = made })

pub returns : goal.returns
returns c =
    let s = c.self.inside in
    let k = s.length - s.done in
    let part : s.done ≤ s.length = c.self.invariant.1.1.0 in
    ended c.args.self.now s.length s.done c.args.piece.now c.args.out.now _ k
    (as_string s.is_within s.length s.done (take s.held s.prefix) c.args.self.now c.self.view_is c.requires.place)
    c.if-piece-left.false (omega arith) (put c.args.out.now c.copy_from_slice-2.new.self c.args.piece.now s.done k c.copy_from_slice-2.ensures.after c.if-piece-left.false)
