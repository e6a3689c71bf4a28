-- Laws of the levels of an index while it is written.
use Rattle.std.proofs.Common.{◌≡◌, ℕ, zero, suc, ◌+◌, ◌-◌, ◌*◌, ◌/◌, ◌^◌, ◌<◌, ◌≤◌, Bool, true, false, cond, List, ◌++◌, length, get_or, Some, refl, sym, ap, subst, ◌∙◌, arith, lit<, pow-suc, ⊎_elim}
use Rattle.std.proofs.Math.Nat.{mul_assoc, mul_comm, mul-one}
use Rattle.std.proofs.lemmas.Bool.{ne_eqb, cases_lt}
use Rattle.std.proofs.lemmas.List.{length-append}
use Rattle.std.proofs.lemmas.List.FromFn.{fill_by_all, length-map-range_with_len}
use Rattle.e57_base.specs.Target.{TargetView}
use Rattle.e57_base.specs.declared.fault.PutFault.{PutFault}
use Rattle.e57_layout.specs.declared.packet.Entry.{Entry}
use Rattle.e57_layout.specs.Written.{physical, packets_bytes, entry_runs, level_spelled, level_size, upper_entries, index_spelled, root_place}
use Rattle.e57_layout.proofs.Laws.Index.{entry_runs-count, index_spelled-last, index_spelled-more, root_place-last, root_place-more}
use Rattle.e57_layout.proofs.Laws.Written.{packets_bytes-append}
use Rattle.e57_page.specs.Place.{place}
use Rattle.e57_page_out.specs.Sequences.{Puts, Loses}
use Rattle.e57_page_out.specs.Writing.{Writing, most_bytes}
use Rattle.e57_page_out.proofs.Places.{offset-place}
use Rattle.e57_page_out.proofs.Sequences.{puts_both, loses_part, loses_wider}
use Rattle.e57_index_out.specs.Levels.{lowest_level, upper_level, no_entry, chunk_entry, level_entry, level_part, level_entries, IsLevel}
use Rattle.e57_index_out.specs.declared.level.Level.{Level}
use Rattle.e57_index_out.proofs.Made.{made, made_same}
use Rattle.e57_index_out.proofs.Runs.{above, upper-made, size-made}

-- ---- entries

-- an entry above level 0 names a packet
pub entry-above : (chunks : List Entry) (level : Level) (k offset : ℕ) → (level.number ≡ 0 → ⊥) → place offset ≡ Some (level.below + k * 32784) → record { first = (get_or chunks (k * level.step) no_entry).first; place = offset } ≡ level_entry chunks level k
entry-above chunks level k offset above is =
    rw (ne_eqb level.number 0 above) (ap (λ p. record { first = (get_or chunks (k * level.step) no_entry).first; place = p }) (offset-place offset (level.below + k * 32784) is))

-- level 0 has the chunks' own
pub lowest-is : (chunks : List Entry) → level_entries chunks (lowest_level (length chunks)) ≡ chunks
unfolding level_part
lowest-is chunks =
    sym (fill_by_all (level_entry chunks (lowest_level (length chunks))) chunks (length chunks) no_entry refl (λ k within. ap (λ i. get_or chunks i no_entry) (sym (mul-one k))))

entry-first : (chunks : List Entry) (level : Level) (k : ℕ) → (level_entry chunks level k).first ≡ (chunk_entry chunks level k).first
entry-first chunks level k = by_test _ (chunk_entry chunks level k) _ refl where
  by_test : (b : Bool) (e x : Entry) → x.first ≡ e.first → (cond b e x).first ≡ e.first
  by_test true e x is = refl
  by_test false e x is = is

turn : (k s : ℕ) → 2048 * k * s ≡ k * (s * 2048)
turn k s = ap (λ i. i * s) (mul_comm 2048 k) ∙ mul_assoc k 2048 s ∙ ap (λ i. k * i) (mul_comm 2048 s)

-- those of the level above name this one's packets
pub upper-is : (chunks : List Entry) (level : Level) (q : ℕ) → upper_entries q (entry_runs (level_entries chunks level)) ≡ level_entries chunks (upper_level level q)
unfolding level_part
upper-is chunks level q =
    upper-made (level_entry chunks level) level.count q
    ∙ made_same (above (level_entry chunks level) q) (level_entry chunks (upper_level level q)) 0 ((level.count + 2047) / 2048) same
  where
    same : (k : ℕ) → above (level_entry chunks level) q k ≡ level_entry chunks (upper_level level q) k
    same k =
        let more : level.number + 1 ≡ 0 → ⊥ = λ is. absurd (omega arith) in
        rw (ne_eqb (level.number + 1) 0 more)
        (ap (λ n. record { first = n; place = physical (q + k * 32784) }) (entry-first chunks level (2048 * k) ∙ ap (λ i. (get_or chunks i no_entry).first) (turn k level.step)))

length-level : (chunks : List Entry) (level : Level) → length (level_entries chunks level) ≡ level.count
unfolding level_part
length-level chunks level = length-map-range_with_len (level_entry chunks level) 0 level.count

runs-count : (chunks : List Entry) (level : Level) → length (entry_runs (level_entries chunks level)) ≡ (level.count + 2047) / 2048
runs-count chunks level = entry_runs-count (level_entries chunks level) ∙ ap (λ n. (n + 2047) / 2048) (length-level chunks level)

-- ---- levels

pub is_lowest : (n : ℕ) → 0 < n → n ≤ 2 ^ 40 → IsLevel n (lowest_level n)
is_lowest n some most =
    let room : 2048 ^ (5 - 0) ≡ 2 ^ 55 = refl in
    record {
      some = some;
      number = lit< tt;
      most = omega arith;
      named = λ k within. rw (mul-one k) within;
      places = λ k up within. absurd (omega arith);
    }

fewer : (e n : ℕ) → n ≤ 2048 ^ suc e → 2048 < n → (0 < e) × ((n + 2047) / 2048 ≤ 2048 ^ e)
fewer zero n few many = let one : 2048 ^ suc zero ≡ 2048 = refl in absurd (omega arith)
fewer (suc e) n few many =
    let wide : 2048 ^ suc (suc e) ≡ 2048 ^ suc e * 2048 = pow-suc 2048 (suc e) in
    (omega arith, omega arith)

least_size : (chunks : List Entry) (level : Level) → 32784 * ((level.count + 2047) / 2048 - 1) ≤ level_size level.number (entry_runs (level_entries chunks level))
unfolding level_part
least_size chunks level = size-made (level_entry chunks level) level.count level.number

-- a level with more than one packet has one above it
pub is_upper : (chunks : List Entry) (level : Level) (q : ℕ) → IsLevel (length chunks) level → 2048 < level.count → q + level_size level.number (entry_runs (level_entries chunks level)) ≤ most_bytes → IsLevel (length chunks) (upper_level level q)
is_upper chunks level q is many fits =
    let left : 5 - level.number ≡ suc (4 - level.number) = let below = is.number in omega arith in
    let less : 4 - level.number ≡ 5 - (level.number + 1) = omega arith in
    let few = fewer (4 - level.number) level.count (subst (λ e. level.count ≤ 2048 ^ e) left is.most) many in
    let least = least_size chunks level in
    record {
      some = omega arith;
      number = let some = few.0 in omega arith;
      most = subst (λ e. (level.count + 2047) / 2048 ≤ 2048 ^ e) less few.1;
      named = λ k within. let lower : 2048 * k * level.step < length chunks = is.named (2048 * k) (omega arith) in subst (λ i. i < length chunks) (turn k level.step) lower;
      places = λ k up within. omega arith;
    }

-- its steps are chunks that are there
pub step_fits : (chunks : ℕ) (level : Level) → IsLevel chunks level → 2048 < level.count → level.step * 2048 < chunks
step_fits chunks level is many = subst (λ i. i < chunks) (mul_comm 2048 level.step) (is.named 2048 many)

module _ (chunks : List Entry) (level : Level) (q : ℕ) (is : IsLevel (length chunks) level) where
  -- the last level
  pub spelled-last : level.count ≤ 2048 → index_spelled (5 - level.number) level.number q (level_entries chunks level) ≡ level_spelled level.number (entry_runs (level_entries chunks level))
  spelled-last few =
      let left : 5 - level.number ≡ suc (4 - level.number) = let below = is.number in omega arith in
      let one : length (entry_runs (level_entries chunks level)) ≤ 1 = let count = runs-count chunks level in omega arith in
      ap (λ e. index_spelled e level.number q (level_entries chunks level)) left
      ∙ index_spelled-last (4 - level.number) level.number q (level_entries chunks level) one

  pub root-last : level.count ≤ 2048 → root_place (5 - level.number) level.number q (level_entries chunks level) ≡ q
  root-last few =
      let left : 5 - level.number ≡ suc (4 - level.number) = let below = is.number in omega arith in
      let one : length (entry_runs (level_entries chunks level)) ≤ 1 = let count = runs-count chunks level in omega arith in
      ap (λ e. root_place e level.number q (level_entries chunks level)) left
      ∙ root_place-last (4 - level.number) level.number q (level_entries chunks level) one

  -- the packets of this level, and those above it
  pub spelled-more : 2048 < level.count → packets_bytes (index_spelled (5 - level.number) level.number q (level_entries chunks level))
      ≡ packets_bytes (level_spelled level.number (entry_runs (level_entries chunks level)))
      ++ packets_bytes (index_spelled (5 - (level.number + 1)) (level.number + 1) (q + level_size level.number (entry_runs (level_entries chunks level))) (level_entries chunks (upper_level level q)))
  spelled-more many =
      let left : 5 - level.number ≡ suc (5 - (level.number + 1)) = let below = is.number in omega arith in
      let es = level_entries chunks level in
      let more : 1 < length (entry_runs es) = let count = runs-count chunks level in omega arith in
      let next = q + level_size level.number (entry_runs es) in
      ap (λ e. packets_bytes (index_spelled e level.number q es)) left
      ∙ ap packets_bytes (index_spelled-more (5 - (level.number + 1)) level.number q es more)
      ∙ packets_bytes-append (level_spelled level.number (entry_runs es)) (index_spelled (5 - (level.number + 1)) (level.number + 1) next (upper_entries q (entry_runs es)))
      ∙ ap (λ up. packets_bytes (level_spelled level.number (entry_runs es)) ++ packets_bytes (index_spelled (5 - (level.number + 1)) (level.number + 1) next up)) (upper-is chunks level q)

  pub root-more : 2048 < level.count → root_place (5 - level.number) level.number q (level_entries chunks level)
      ≡ root_place (5 - (level.number + 1)) (level.number + 1) (q + level_size level.number (entry_runs (level_entries chunks level))) (level_entries chunks (upper_level level q))
  root-more many =
      let left : 5 - level.number ≡ suc (5 - (level.number + 1)) = let below = is.number in omega arith in
      let es = level_entries chunks level in
      let more : 1 < length (entry_runs es) = let count = runs-count chunks level in omega arith in
      ap (λ e. root_place e level.number q es) left
      ∙ root_place-more (5 - (level.number + 1)) level.number q es more
      ∙ ap (root_place (5 - (level.number + 1)) (level.number + 1) (q + level_size level.number (entry_runs es))) (upper-is chunks level q)

-- ---- what was put

-- the bytes of this level and of those above it
abbrev pub packets_from : List Entry → Level → ℕ → List ℕ
packets_from chunks level q = packets_bytes (index_spelled (5 - level.number) level.number q (level_entries chunks level))

abbrev pub packets_of : List Entry → Level → List ℕ
packets_of chunks level = packets_bytes (level_spelled level.number (entry_runs (level_entries chunks level)))

abbrev pub root_from : List Entry → Level → ℕ → ℕ
root_from chunks level q = physical (root_place (5 - level.number) level.number q (level_entries chunks level))

-- a level has no more bytes than it and those above it
level_within : (chunks : List Entry) (level : Level) (q : ℕ) → IsLevel (length chunks) level → length (packets_of chunks level) ≤ length (packets_from chunks level q)
level_within chunks level q is = ⊎_elim
    (λ many. let both = ap (λ (xs : List ℕ). length xs) (spelled-more chunks level q is many) ∙ length-append (packets_of chunks level) (packets_from chunks (upper_level level q) (q + length (packets_of chunks level))) in omega arith)
    (λ few. let same = ap (λ ps. length (packets_bytes ps)) (spelled-last chunks level q is few) in omega arith)
    (cases_lt 2048 level.count)

module _ {T : Type 0} (view : T → TargetView) (chunks : List Entry) (level upper : Level) (a b c : Writing T) (is : IsLevel (length chunks) level) where
  -- the last level was put
  pub last_done : (root : ℕ) → level.count ≤ 2048 → Puts view a (packets_of chunks level) b → place root ≡ Some a.size → Puts view a (packets_from chunks level a.size) b × (root ≡ root_from chunks level a.size)
  last_done root few puts here = (
    subst (λ ps. Puts view a (packets_bytes ps) b) (sym (spelled-last chunks level a.size is few)) puts,
    offset-place root a.size here ∙ ap physical (sym (root-last chunks level a.size is few)),
  )

  -- the failure of a level is that of all
  pub first_lost : (fault : PutFault) (now : TargetView) → Loses view a (most_bytes < a.size + length (packets_of chunks level)) fault now → Loses view a (most_bytes < a.size + length (packets_from chunks level a.size)) fault now
  first_lost fault now lost =
      let within = level_within chunks level a.size is in
      loses_wider view a (most_bytes < a.size + length (packets_of chunks level)) (most_bytes < a.size + length (packets_from chunks level a.size)) fault now (λ past. omega arith) lost

  -- this level and those above it were put
  pub more_done : (root : ℕ) → 2048 < level.count → upper ≡ upper_level level a.size → Puts view a (packets_of chunks level) b
      → Puts view b (packets_from chunks upper b.size) c × (root ≡ root_from chunks upper b.size)
      → Puts view a (packets_from chunks level a.size) c × (root ≡ root_from chunks level a.size)
  more_done root many above puts later =
      let size = puts.size in
      let next : Puts view b (packets_from chunks (upper_level level a.size) (a.size + length (packets_of chunks level))) c × (root ≡ root_from chunks (upper_level level a.size) (a.size + length (packets_of chunks level)))
      = subst (λ q. Puts view b (packets_from chunks (upper_level level a.size) q) c × (root ≡ root_from chunks (upper_level level a.size) q)) size
      (subst (λ (u : Level). Puts view b (packets_from chunks u b.size) c × (root ≡ root_from chunks u b.size)) above later) in (
        subst (λ ps. Puts view a ps c) (sym (spelled-more chunks level a.size is many)) (puts_both view a b c (packets_of chunks level) (packets_from chunks (upper_level level a.size) (a.size + length (packets_of chunks level))) puts next.0),
        next.1 ∙ ap physical (sym (root-more chunks level a.size is many)),
      )

  pub more_lost : (fault : PutFault) (now : TargetView) → 2048 < level.count → upper ≡ upper_level level a.size → Puts view a (packets_of chunks level) b
      → Loses view b (most_bytes < b.size + length (packets_from chunks upper b.size)) fault now
      → Loses view a (most_bytes < a.size + length (packets_from chunks level a.size)) fault now
  more_lost fault now many above puts lost =
      let size = puts.size in
      let next : Loses view b (most_bytes < b.size + length (packets_from chunks (upper_level level a.size) (a.size + length (packets_of chunks level)))) fault now
      = subst (λ q. Loses view b (most_bytes < b.size + length (packets_from chunks (upper_level level a.size) q)) fault now) size
      (subst (λ (u : Level). Loses view b (most_bytes < b.size + length (packets_from chunks u b.size)) fault now) above lost) in
      let both = ap (λ (xs : List ℕ). length xs) (spelled-more chunks level a.size is many) ∙ length-append (packets_of chunks level) (packets_from chunks (upper_level level a.size) (a.size + length (packets_of chunks level))) in
      loses_part view a b (packets_of chunks level) (length (packets_from chunks (upper_level level a.size) (a.size + length (packets_of chunks level)))) (length (packets_from chunks level a.size)) fault now puts (omega arith) next
