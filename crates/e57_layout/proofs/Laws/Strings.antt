-- Laws of strings after strings: what is found behind the first k strings is found in what follows them.
use Rattle.std.proofs.Common.{◌≡◌, ℕ, zero, suc, ◌+◌, List, ◌++◌, Some, refl, sym, ap, ◌∙◌, arith}
use Rattle.e57_layout.specs.Values.{Value, octets, here}
use Rattle.e57_layout.specs.Strings.{StringRead, string_found, string_too_long, string_cut_off, first_string, on_string, string_at, on_prefix, first_prefix, string_length_at, on_rest, after_strings}
use Rattle.e57_layout.proofs.Laws.Found.{StringStays, first_string-stays}

pub string_at-zero : (done : ℕ) (stream : List ℕ) → string_at done stream 0 ≡ on_string done (λ t rest. here (octets t)) (first_string stream)
unfolding string_at
string_at-zero done stream = refl

pub string_at-suc : (done : ℕ) (stream : List ℕ) (k : ℕ) → string_at done stream (suc k) ≡ on_string done (λ t rest. string_at (done + 1) rest k) (first_string stream)
unfolding string_at
string_at-suc done stream k = refl

pub string_length_at-zero : (done : ℕ) (stream : List ℕ) → string_length_at done stream 0 ≡ on_prefix done (first_prefix stream)
unfolding string_length_at
string_length_at-zero done stream = refl

pub string_length_at-suc : (done : ℕ) (stream : List ℕ) (k : ℕ) → string_length_at done stream (suc k) ≡ on_string done (λ t rest. string_length_at (done + 1) rest k) (first_string stream)
unfolding string_length_at
string_length_at-suc done stream k = refl

pub after_strings-zero : (stream : List ℕ) → after_strings 0 stream ≡ Some stream
unfolding after_strings
after_strings-zero stream = refl

pub after_strings-suc : (k : ℕ) (stream : List ℕ) → after_strings (suc k) stream ≡ on_rest (after_strings k) (first_string stream)
unfolding after_strings
after_strings-suc k stream = refl

-- a string behind the first k strings
pub after_strings-at : (k done : ℕ) (stream rest : List ℕ) (j : ℕ) → after_strings k stream ≡ Some rest → string_at done stream (k + j) ≡ string_at (done + k) rest j
unfolding after_strings
after_strings-at zero done stream rest j h =
    let same : stream ≡ rest = cc in
    let place : done + 0 ≡ done = omega arith in
    let item : 0 + j ≡ j = omega arith in
    rw (place, item, same) refl
after_strings-at (suc k) done stream rest j h =
    let item : suc k + j ≡ suc (k + j) = omega arith in
    let place : done + suc k ≡ done + 1 + k = omega arith in
    rw (item, place, string_at-suc) (onward (λ more g. after_strings-at k (done + 1) more rest j g) (first_string stream) h)
  where
    onward : ((more : List ℕ) → after_strings k more ≡ Some rest → string_at (done + 1) more (k + j) ≡ string_at (done + 1 + k) rest j) → (s : StringRead) → on_rest (after_strings k) s ≡ Some rest → on_string done (λ t more. string_at (done + 1) more (k + j)) s ≡ string_at (done + 1 + k) rest j
    onward each (string_found t more) g = each more g
    onward each string_too_long g = cc
    onward each string_cut_off g = cc

-- and its length
pub after_strings-length_at : (k done : ℕ) (stream rest : List ℕ) (j : ℕ) → after_strings k stream ≡ Some rest → string_length_at done stream (k + j) ≡ string_length_at (done + k) rest j
unfolding after_strings
after_strings-length_at zero done stream rest j h =
    let same : stream ≡ rest = cc in
    let place : done + 0 ≡ done = omega arith in
    let item : 0 + j ≡ j = omega arith in
    rw (place, item, same) refl
after_strings-length_at (suc k) done stream rest j h =
    let item : suc k + j ≡ suc (k + j) = omega arith in
    let place : done + suc k ≡ done + 1 + k = omega arith in
    rw (item, place, string_length_at-suc) (onward (λ more g. after_strings-length_at k (done + 1) more rest j g) (first_string stream) h)
  where
    onward : ((more : List ℕ) → after_strings k more ≡ Some rest → string_length_at (done + 1) more (k + j) ≡ string_length_at (done + 1 + k) rest j) → (s : StringRead) → on_rest (after_strings k) s ≡ Some rest → on_string done (λ t more. string_length_at (done + 1) more (k + j)) s ≡ string_length_at (done + 1 + k) rest j
    onward each (string_found t more) g = each more g
    onward each string_too_long g = cc
    onward each string_cut_off g = cc

-- more strings behind the first k
pub after_strings-add : (k m : ℕ) (stream rest : List ℕ) → after_strings k stream ≡ Some rest → after_strings (k + m) stream ≡ after_strings m rest
unfolding after_strings
after_strings-add zero m stream rest h =
    let same : stream ≡ rest = cc in
    let count : 0 + m ≡ m = omega arith in
    rw (count, same) refl
after_strings-add (suc k) m stream rest h =
    let count : suc k + m ≡ suc (k + m) = omega arith in
    rw (count, after_strings-suc) (onward (λ more g. after_strings-add k m more rest g) (first_string stream) h)
  where
    onward : ((more : List ℕ) → after_strings k more ≡ Some rest → after_strings (k + m) more ≡ after_strings m rest) → (s : StringRead) → on_rest (after_strings k) s ≡ Some rest → on_rest (after_strings (k + m)) s ≡ after_strings m rest
    onward each (string_found t more) g = each more g
    onward each string_too_long g = cc
    onward each string_cut_off g = cc

-- one string more
pub after_strings-next : (k : ℕ) (stream rest t later : List ℕ) → after_strings k stream ≡ Some rest → first_string rest ≡ string_found t later → after_strings (k + 1) stream ≡ Some later
after_strings-next k stream rest t later h g =
    after_strings-add k 1 stream rest h ∙ after_strings-suc 0 rest ∙ ap (on_rest (after_strings 0)) g ∙ after_strings-zero later

-- more bytes follow what follows
pub after_strings-stays : (k : ℕ) (stream rest more : List ℕ) → after_strings k stream ≡ Some rest → after_strings k (stream ++ more) ≡ Some (rest ++ more)
unfolding after_strings
after_strings-stays zero stream rest more h = let same : stream ≡ rest = cc in rw same refl
after_strings-stays (suc k) stream rest more h =
    onward (λ later g. after_strings-stays k later rest more g) (first_string stream) (first_string (stream ++ more)) (first_string-stays stream more) h
  where
    onward : ((later : List ℕ) → after_strings k later ≡ Some rest → after_strings k (later ++ more) ≡ Some (rest ++ more)) → (s long : StringRead) → StringStays more s long → on_rest (after_strings k) s ≡ Some rest → on_rest (after_strings k) long ≡ Some (rest ++ more)
    onward each (string_found t later) long stays g = rw stays (each later g)
    onward each string_too_long long stays g = cc
    onward each string_cut_off long stays g = cc

-- a string that is found is followed by something
pub after_strings-here : (k done : ℕ) (stream : List ℕ) (v : Value) → string_at done stream k ≡ here v → (rest : List ℕ) × (after_strings (k + 1) stream ≡ Some rest)
after_strings-here zero done stream v h = ending (first_string stream) refl (sym (string_at-zero done stream) ∙ h)
  where
    ending : (s : StringRead) → first_string stream ≡ s → on_string done (λ t rest. here (octets t)) s ≡ here v → (rest : List ℕ) × (after_strings 1 stream ≡ Some rest)
    ending (string_found t rest) e g = (rest, after_strings-suc 0 stream ∙ ap (on_rest (after_strings 0)) e ∙ after_strings-zero rest)
    ending string_too_long e g = cc
    ending string_cut_off e g = cc
after_strings-here (suc k) done stream v h = onward (λ more g. after_strings-here k (done + 1) more v g) (first_string stream) refl (sym (string_at-suc done stream k) ∙ h)
  where
    onward : ((more : List ℕ) → string_at (done + 1) more k ≡ here v → (rest : List ℕ) × (after_strings (k + 1) more ≡ Some rest)) → (s : StringRead) → first_string stream ≡ s → on_string done (λ t more. string_at (done + 1) more k) s ≡ here v → (rest : List ℕ) × (after_strings (suc k + 1) stream ≡ Some rest)
    onward each (string_found t more) e g =
        let found = each more g in
        let count : suc k + 1 ≡ suc (k + 1) = omega arith in
        (found.0, ap (λ m. after_strings m stream) count ∙ after_strings-suc (k + 1) stream ∙ ap (on_rest (after_strings (k + 1))) e ∙ found.1)
    onward each string_too_long e g = cc
    onward each string_cut_off e g = cc
