-- Lengths of strings that aren't there.
use Rattle.std.proofs.Common.{◌≡◌, ℕ, zero, suc, ◌+◌, ◌-◌, ◌<◌, ◌≤◌, List, [], ◌++◌, refl, sym, subst, ap, ◌∙◌, arith, append_assoc}
use Rattle.std.specs.Prelude.{Option, Some, IfSome, Result, Ok, Err}
use Rattle.e57_base.specs.Fault.{fault}
use Rattle.e57_base.specs.Source.{SourceView}
use Rattle.e57_base.proofs.Told.{told_map}
use Rattle.e57_base.specs.declared.fault.Fault.{Fault}
use Rattle.e57_base.specs.declared.fault.ReadFault.{ReadFault}
use Rattle.e57_base.specs.declared.fault.ReadFault.TheVariants.{Refused, Source}
use Rattle.e57_base.specs.declared.kind.Kind.TheVariants.{StreamShort, StringLimit}
use Rattle.e57_layout.specs.Values.{strings, Value, word, octets, Outcome, here, short, over_limit, out_of_range}
use Rattle.e57_layout.specs.Items.{item_at}
use Rattle.e57_layout.specs.Strings.{PrefixRead, prefix_too_long, prefix_cut_off, first_prefix, StringRead, string_found, string_too_long, string_cut_off, first_string, on_string, string_at, on_prefix, string_length_at, after_strings}
use Rattle.e57_layout.proofs.Laws.Strings.{string_length_at-zero, after_strings-length_at}
use Rattle.e57_layout.proofs.Laws.Found.{PrefixStays, first_prefix-stays}
use Rattle.e57_cloud.specs.PathItem.{stretch, ended_by, or_short, answer, item_in}
use Rattle.e57_stream.specs.declared.bytestream.Bytestream.{Bytestream}
use Rattle.e57_stream.specs.declared.chunk.Chunk.{Chunk}
use Rattle.e57_stream.specs.Standing.{Reaches}
use Rattle.e57_stream.proofs.StandingLaws.{taken_first}
use Rattle.e57_stream.specs.Taking.{IsFinishCause}
use Rattle.e57_stream.specs.Reading.{chunk_item}
use Rattle.e57_texts.specs.Standing.{StandsText}
use Rattle.e57_texts.specs.Pieces.{IsCut, TakesPiece, EndsWanting, IsPieceCause}
use Rattle.e57_texts.specs.Reading.{chunk_length, limit_at, IsLengthCause, IsFitting}
use Rattle.e57_texts.proofs.Pieces.{cause_next}
use Rattle.e57_texts.proofs.Texts.{behind, Begins, begins_after}

-- ---- the next string's prefix

length_behind : (k : ℕ) (front more : List ℕ) → after_strings k front ≡ Some [] → string_length_at 0 (front ++ more) k ≡ on_prefix k (first_prefix more)
length_behind k front more h =
    let none : k + 0 ≡ k = omega arith in
    let z : 0 + k ≡ k = omega arith in
    ap (string_length_at 0 (front ++ more)) (sym none) ∙ after_strings-length_at k 0 (front ++ more) more 0 (behind k front more h) ∙ string_length_at-zero (0 + k) more ∙ ap (λ (j : ℕ). on_prefix j (first_prefix more)) z

-- the bytes end within the prefix
abbrev IsPrefixCut : List ℕ → Type 0
IsPrefixCut bytes = first_prefix bytes ≡ prefix_cut_off

length_cut : (file : List ℕ) (b : Bytestream) (chunk : Chunk) (found : Fault) → chunk.start ≤ chunk.at → (stands : StandsText file b chunk) → EndsWanting file b chunk stands.front IsPrefixCut found → chunk_length file b chunk chunk.at ≡ Err found
unfolding item_in
length_cut file b chunk found low stands ends =
    let number : chunk.start + (chunk.at - chunk.start) ≡ chunk.at = omega (arith, low) in
    let item : string_length_at 0 (stands.front ++ ends.more) (chunk.at - chunk.start) ≡ short (chunk.at - chunk.start) = length_behind (chunk.at - chunk.start) stands.front ends.more stands.strings ∙ ap (on_prefix (chunk.at - chunk.start)) ends.wanting in
    rw (ends.finishes.stream, item) (ap (λ (n : ℕ). or_short (ended_by b.section b.fixed (stretch file b.section chunk.entry)) (fault StreamShort n b.node)) number ∙ ends.finishes.cause)

length_over : (file : List ℕ) (b : Bytestream) (chunk : Chunk) (more : List ℕ) → chunk.start ≤ chunk.at → Begins file b chunk more → first_prefix more ≡ prefix_too_long → chunk_length file b chunk chunk.at ≡ Err (limit_at b chunk.at)
unfolding item_in
length_over file b chunk more low begins is =
    let (later, all) = taken_first file b chunk.entry begins.taken begins.fresh (begins.front ++ more) begins.has in
    let number : chunk.start + (chunk.at - chunk.start) ≡ chunk.at = omega (arith, low) in
    let longer : first_prefix (more ++ later) ≡ prefix_too_long = subst (λ (s : PrefixRead). PrefixStays later s (first_prefix (more ++ later))) is (first_prefix-stays more later) in
    let item : string_length_at 0 (begins.front ++ (more ++ later)) (chunk.at - chunk.start) ≡ over_limit (chunk.at - chunk.start) = length_behind (chunk.at - chunk.start) begins.front (more ++ later) begins.strings ∙ ap (on_prefix (chunk.at - chunk.start)) longer in
    rw (all, append_assoc begins.front more later, item) (ap (λ (n : ℕ). Err (fault StringLimit n b.node)) number)

cut_cause : (old new : SourceView) (b : Bytestream) (chunk : Chunk) (found : ReadFault) → chunk.start ≤ chunk.at → IsPieceCause old b chunk IsPrefixCut found new → IsLengthCause old b chunk chunk.at found
cut_cause old new b chunk (Refused found) low cause =
    told_map (λ file. (front : List ℕ) → Reaches file b chunk front → EndsWanting file b chunk front IsPrefixCut found) (λ file. StandsText file b chunk → chunk_length file b chunk chunk.at ≡ Err found) old.held
    (λ file ends stands. length_cut file b chunk found low stands (ends stands.front stands.reaches)) cause.1
cut_cause old new b chunk Source low cause = tt

-- no packet follows a part of the prefix
pub prefix_ends : (s0 s1 s2 : SourceView) (b : Bytestream) (c0 c1 : Chunk) (found : ReadFault) → c0.start ≤ c0.at → first_prefix c1.window ≡ prefix_cut_off → TakesPiece s0 b c0 IsCut [] c1 s1 → IsFinishCause s1 b c1 found s2 → IsLengthCause s0 b c0 c0.at found
prefix_ends s0 s1 s2 b c0 c1 found low cut f cause = cut_cause s0 s2 b c0 found low (cause_next s0 s1 s2 b c0 c1 IsPrefixCut IsCut [] found cut f cause)

-- the prefix is above the limit
pub prefix_over : (old new : SourceView) (b : Bytestream) (before after : Chunk) (found : ReadFault) → before.start ≤ before.at → TakesPiece old b before IsCut [] after new → first_prefix after.window ≡ prefix_too_long → found ≡ Refused (limit_at b before.at) → IsLengthCause old b before before.at found
prefix_over old new b before after found low takes over is =
    rw is
    (told_map (λ file. (front : List ℕ) → Reaches file b before front → Reaches file b after (front ++ [])) (λ file. StandsText file b before → chunk_length file b before before.at ≡ Err (limit_at b before.at)) old.held
    (λ file on stands. length_over file b before after.window low (begins_after file b before after [] takes.same on stands) over) takes.reaches)

-- ---- strings behind a string with a fault

-- what is found later, where this is found first
abbrev IsFaultToo : Outcome → Outcome → Type 0
IsFaultToo (here v) later = Unit {0}
IsFaultToo (short j) later = later ≡ short j
IsFaultToo (over_limit j) later = later ≡ over_limit j
IsFaultToo (out_of_range j) later = later ≡ out_of_range j

later_string : (done : ℕ) (stream : List ℕ) (k m : ℕ) → k < m → IsFaultToo (string_at done stream k) (string_length_at done stream m)
unfolding string_at string_length_at
later_string done stream k zero below = absurd (omega (arith, below))
later_string done stream zero (suc m) below = first (first_string stream)
  where
    first : (s : StringRead) → IsFaultToo (on_string done (λ t rest. here (octets t)) s) (on_string done (λ t rest. string_length_at (done + 1) rest m) s)
    first (string_found t rest) = tt
    first string_too_long = refl
    first string_cut_off = refl
later_string done stream (suc k) (suc m) below = onward (λ rest. later_string (done + 1) rest k m (omega (arith, below))) (first_string stream)
  where
    onward : ((rest : List ℕ) → IsFaultToo (string_at (done + 1) rest k) (string_length_at (done + 1) rest m)) → (s : StringRead) → IsFaultToo (on_string done (λ t rest. string_at (done + 1) rest k) s) (on_string done (λ t rest. string_length_at (done + 1) rest m) s)
    onward each (string_found t rest) = each rest
    onward each string_too_long = refl
    onward each string_cut_off = refl

fault_too : (node first : ℕ) (ended : Option Fault) (o later : Outcome) (found : Fault) → IsFaultToo o later → answer node first ended o ≡ Err found → answer node first ended later ≡ Err found
fault_too node first ended (here v) later found same e = cc
fault_too node first ended (short j) later found same e = ap (answer node first ended) same ∙ e
fault_too node first ended (over_limit j) later found same e = ap (answer node first ended) same ∙ e
fault_too node first ended (out_of_range j) later found same e = ap (answer node first ended) same ∙ e

pub chunk_later : (file : List ℕ) (b : Bytestream) (chunk : Chunk) (j i : ℕ) (found : Fault) → chunk.start ≤ j → j < i → chunk_item file b strings chunk j ≡ Err found → chunk_length file b chunk i ≡ Err found
unfolding item_in item_at
chunk_later file b chunk j i found low below e =
    fault_too b.node chunk.start (ended_by b.section b.fixed (stretch file b.section chunk.entry)) _ _ found (later_string 0 _ (j - chunk.start) (i - chunk.start) (omega (arith, low, below))) e

-- ---- what is left

never_both : (r : Result Value Fault) (found : Fault) (v : Value) (n left : ℕ) → r ≡ Err found → r ≡ Ok v → n ≤ left
never_both r found v n left e g = cc

pub fits_unknown : (old : SourceView) (b : Bytestream) (chunk : Chunk) (i left : ℕ) (found : ReadFault) → IsLengthCause old b chunk i found → IsFitting old b chunk i left found
fits_unknown old b chunk i left (Refused found) cause =
    told_map (λ file. StandsText file b chunk → chunk_length file b chunk i ≡ Err found) (λ file. StandsText file b chunk → (n : ℕ) → chunk_length file b chunk i ≡ Ok (word n) → n ≤ left) old.held
    (λ file wrong stands n is. never_both (chunk_length file b chunk i) found (word n) n left (wrong stands) is) cause
fits_unknown old b chunk i left Source cause = tt

one_length : (r : Result Value Fault) (n m left : ℕ) → r ≡ Ok (word n) → r ≡ Ok (word m) → n ≤ left → m ≤ left
one_length r n m left e g fits = let same : n ≡ m = cc in subst (λ (k : ℕ). k ≤ left) same fits

pub fits_known : (old : SourceView) (b : Bytestream) (chunk : Chunk) (i n left : ℕ) (found : ReadFault) → n ≤ left → IfSome old.held (λ file. StandsText file b chunk → chunk_length file b chunk i ≡ Ok (word n)) → IsFitting old b chunk i left found
fits_known old b chunk i n left (Refused found) fits is =
    told_map (λ file. StandsText file b chunk → chunk_length file b chunk i ≡ Ok (word n)) (λ file. StandsText file b chunk → (m : ℕ) → chunk_length file b chunk i ≡ Ok (word m) → m ≤ left) old.held
    (λ file known stands m too. one_length (chunk_length file b chunk i) n m left (known stands) too fits) is
fits_known old b chunk i n left Source fits is = tt
