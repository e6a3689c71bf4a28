-- What is put of a cloud stays in front of what is put later.
use Rattle.std.proofs.Common.{◌≡◌, ℕ, zero, suc, ◌+◌, ◌-◌, ◌*◌, ◌/◌, ◌%◌, ◌<◌, ◌≤◌, min, List, [], ◌++◌, length, None, true, sym, ap, subst, ◌∙◌, arith, ⊎_elim}
use Rattle.std.proofs.lemmas.Bool.{cases_lt}
use Rattle.std.proofs.lemmas.List.{append_assoc, append-nil}
use Rattle.std.proofs.Math.Nat.{div-add-mod}
use Rattle.e57_layout.specs.Values.{ItemKind, Value}
use Rattle.e57_layout.specs.Items.{AreColumns}
use Rattle.e57_layout.specs.Packing.{first_records, later_records, join_columns, flushed}
use Rattle.e57_layout.specs.Written.{Spelled, flagged, packets_bytes, data_spelled}
use Rattle.e57_layout.proofs.Laws.Blocks.{first_records-columns, later_records-columns}
use Rattle.e57_layout.proofs.Laws.Steps.{packets_of-all}
use Rattle.e57_layout.proofs.Laws.Written.{length-packets_bytes-append}
use Rattle.e57_chunk_out.specs.Progress.{in_chunks, open_groups, closed_packets, open_packets, packets_so_far, run_so_far, is_nil}
use Rattle.e57_chunk_out.proofs.Joins.{first-all}
use Rattle.e57_chunk_out.proofs.Stepping.{flagged-append}
use Rattle.e57_chunk_out.proofs.Turning.{MayAdd, step_on, in_chunks-parts, packets-on, packets-full, data-open}
use Rattle.e57_chunk_out.proofs.Keeping.{next-records}

-- some packets are the first of others
pub record IsFront (ps qs : List Spelled) : Type 0 where
  pub rest : List Spelled
  pub is : qs ≡ ps ++ rest

pub front-both : (ps qs rs : List Spelled) → IsFront ps qs → IsFront qs rs → IsFront ps rs
front-both ps qs rs a b = record { rest = a.rest ++ b.rest; is = b.is ∙ ap (λ (xs : List Spelled). xs ++ b.rest) a.is ∙ append_assoc ps a.rest b.rest }

pub front-length : (ps qs : List Spelled) → IsFront ps qs → length (packets_bytes ps) ≤ length (packets_bytes qs)
front-length ps qs a =
    let sum = ap (λ (xs : List Spelled). length (packets_bytes xs)) a.is ∙ length-packets_bytes-append ps a.rest in
    omega (arith, sum)

-- more records of the chunk
pub front-more : (kinds : List ItemKind) (n e : ℕ) (cs : List (List Value)) (k : ℕ) (more : List (List Value)) → MayAdd kinds n e cs k more → IsFront (packets_so_far kinds n e cs) (packets_so_far kinds n (e + k) (join_columns cs more))
front-more kinds n e cs k more may = ⊎_elim
    (λ open_still. record {
      rest = flagged (is_nil (open_packets kinds n e cs)) (step_on kinds n e cs k more may).done;
      is = packets-on kinds n e cs k more may open_still;
    })
    (λ full.
    let filled : e - in_chunks n e + k ≡ n = omega (arith, may.within) in
    record {
      rest = flagged (is_nil (open_packets kinds n e cs)) ((step_on kinds n e cs k more may).done ++ flushed (step_on kinds n e cs k more may).run);
      is = packets-full kinds n e cs k more may filled;
    })
    (cases_lt (e - in_chunks n e + k) n)

-- a group has room in the chunk
group-within : (n e : ℕ) → 0 < n → n % 8 ≡ 0 → e % 8 ≡ 0 → e - in_chunks n e + 8 ≤ n
group-within n e some groups whole =
    let parts = in_chunks-parts n e some in
    let n8 : 8 * (n / 8) + n % 8 ≡ n = div-add-mod n 8 in
    let product : n * parts.q ≡ 8 * (n / 8 * parts.q) = ap (λ a. a * parts.q) (sym n8 ∙ ap (λ r. 8 * (n / 8) + r) groups) ∙ regroup (n / 8) parts.q in
    omega (arith, parts.whole, parts.sum, parts.below, whole, groups, product)
  where
    regroup : (a q : ℕ) → (8 * a + 0) * q ≡ 8 * (a * q)
    regroup a q = grind arith

module _ (kinds : List ItemKind) (n count : ℕ) (cs : List (List Value)) (some : 0 < n) (groups : n % 8 ≡ 0) (are : AreColumns kinds count cs) where
  pub first-are : (e : ℕ) → e ≤ count → AreColumns kinds e (first_records e cs)
  first-are e h = let least : min e count ≡ e = omega arith in subst (λ m. AreColumns kinds m (first_records e cs)) least (first_records-columns kinds e count cs are)

  pub more-are : (e k : ℕ) → e + k ≤ count → AreColumns kinds k (first_records k (later_records e cs))
  more-are e k h =
      let least : min k (count - e) ≡ k = omega arith in
      subst (λ m. AreColumns kinds m (first_records k (later_records e cs))) least (first_records-columns kinds k (count - e) (later_records e cs) (later_records-columns kinds e count cs are))

  -- some records more of the chunk
  front-next : (e k : ℕ) → e % 8 ≡ 0 → e + k ≤ count → k ≤ 8 → IsFront (packets_so_far kinds n e (first_records e cs)) (packets_so_far kinds n (e + k) (first_records (e + k) cs))
  front-next e k whole h few =
      let within = group-within n e some groups whole in
      subst (λ (xs : List (List Value)). IsFront (packets_so_far kinds n e (first_records e cs)) (packets_so_far kinds n (e + k) xs)) (next-records e k cs)
      (front-more kinds n e (first_records e cs) k (first_records k (later_records e cs)) (record { some = some; groups = groups; whole = whole; columns = first-are e (omega arith); added = more-are e k h; within = omega arith }))

  -- whole groups more
  pub front-groups : (m e : ℕ) → e % 8 ≡ 0 → e + 8 * m ≤ count → IsFront (packets_so_far kinds n e (first_records e cs)) (packets_so_far kinds n (e + 8 * m) (first_records (e + 8 * m) cs))
  front-groups zero e whole h =
      let same : e + 8 * 0 ≡ e = omega arith in
      subst (λ (j : ℕ). IsFront (packets_so_far kinds n e (first_records e cs)) (packets_so_far kinds n j (first_records j cs))) (sym same)
      (record { rest = []; is = sym (append-nil (packets_so_far kinds n e (first_records e cs))) })
  front-groups (suc m) e whole h =
      let sum : e + 8 * m + 8 ≡ e + 8 * suc m = omega arith in
      let here : (e + 8 * m) % 8 ≡ 0 = omega arith in
      subst (λ (j : ℕ). IsFront (packets_so_far kinds n e (first_records e cs)) (packets_so_far kinds n j (first_records j cs))) sum
      (front-both (packets_so_far kinds n e (first_records e cs)) (packets_so_far kinds n (e + 8 * m) (first_records (e + 8 * m) cs)) (packets_so_far kinds n (e + 8 * m + 8) (first_records (e + 8 * m + 8) cs))
      (front-groups m e whole (omega arith)) (front-next (e + 8 * m) 8 here (omega arith) (omega arith)))

  -- any number more
  pub front-any : (e k : ℕ) → e % 8 ≡ 0 → e + k ≤ count → IsFront (packets_so_far kinds n e (first_records e cs)) (packets_so_far kinds n (e + k) (first_records (e + k) cs))
  front-any e k whole h =
      let m = k / 8 in
      let parts : 8 * (k / 8) + k % 8 ≡ k = div-add-mod k 8 in
      let sum : e + 8 * m + k % 8 ≡ e + k = omega (arith, parts) in
      let here : (e + 8 * m) % 8 ≡ 0 = omega arith in
      let few : k % 8 ≤ 8 = omega (arith, parts) in
      front-both (packets_so_far kinds n e (first_records e cs)) (packets_so_far kinds n (e + 8 * m) (first_records (e + 8 * m) cs)) (packets_so_far kinds n (e + k) (first_records (e + k) cs))
      (front-groups m e whole (omega (arith, parts)))
      (subst (λ (j : ℕ). IsFront (packets_so_far kinds n (e + 8 * m) (first_records (e + 8 * m) cs)) (packets_so_far kinds n j (first_records j cs))) sum (front-next (e + 8 * m) (k % 8) here (omega (arith, parts)) few))

  -- the packets so far and the run are the data
  pub data-so-far : AreColumns kinds count cs → data_spelled kinds n count cs ≡ packets_so_far kinds n count cs ++ flagged (is_nil (open_packets kinds n count cs)) (flushed (run_so_far kinds n count cs))
  unfolding packets_so_far open_packets run_so_far
  data-so-far all =
      data-open kinds n count cs some all
      ∙ ap (λ (ps : List (List (List ℕ))). closed_packets kinds n count cs ++ flagged true ps) (packets_of-all None (open_groups kinds n count cs))
      ∙ ap (λ (ps : List Spelled). closed_packets kinds n count cs ++ ps) (flagged-append true (open_packets kinds n count cs) (flushed (run_so_far kinds n count cs)))
      ∙ sym (append_assoc (closed_packets kinds n count cs) (flagged true (open_packets kinds n count cs)) (flagged (is_nil (open_packets kinds n count cs)) (flushed (run_so_far kinds n count cs))))

  -- what is put of the first whole groups stands in front of all data
  pub so_far-front : (e : ℕ) → e % 8 ≡ 0 → e ≤ count → IsFront (packets_so_far kinds n e (first_records e cs)) (data_spelled kinds n count cs)
  so_far-front e whole h =
      let m = (count - e) / 8 in
      let k = (count - e) % 8 in
      let parts : 8 * ((count - e) / 8) + (count - e) % 8 ≡ count - e = div-add-mod (count - e) 8 in
      let sum : e + 8 * m + k ≡ count = omega arith in
      let here : (e + 8 * m) % 8 ≡ 0 = omega arith in
      let few : k ≤ 8 = omega arith in
      let last = subst (λ (j : ℕ). IsFront (packets_so_far kinds n (e + 8 * m) (first_records (e + 8 * m) cs)) (packets_so_far kinds n j (first_records j cs))) sum (front-next (e + 8 * m) k here (omega arith) few) in
      let all = subst (λ (xs : List (List Value)). IsFront (packets_so_far kinds n (e + 8 * m) (first_records (e + 8 * m) cs)) (packets_so_far kinds n count xs)) (first-all kinds count count cs are (omega arith)) last in
      front-both (packets_so_far kinds n e (first_records e cs)) (packets_so_far kinds n count cs) (data_spelled kinds n count cs)
      (front-both (packets_so_far kinds n e (first_records e cs)) (packets_so_far kinds n (e + 8 * m) (first_records (e + 8 * m) cs)) (packets_so_far kinds n count cs) (front-groups m e whole (omega arith)) all)
      (record { rest = flagged (is_nil (open_packets kinds n count cs)) (flushed (run_so_far kinds n count cs)); is = data-so-far are })
