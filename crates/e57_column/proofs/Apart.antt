-- Pages of a search and beside them pages between two places: one call after another.
use Rattle.std.specs.Prelude.{◌≡◌, ℕ, ◌+◌, ◌-◌, ◌≤◌, List, [], ◌∷◌, ◌++◌, length}
use Rattle.std.specs.List.{AllByRecursion}
use Rattle.std.proofs.Common.{subst, arith, inl, inr}
use Rattle.e57_base.specs.Source.{SourceView}
use Rattle.e57_page.proofs.PagesLaws.{asks_for_none, asks_for_on}
use Rattle.e57_cloud.specs.Met.{InSpan}
use Rattle.e57_stream.specs.Asking.{AsksNear}
use Rattle.e57_column.specs.Asking.{AreApart, AsksApart}
use Rattle.e57_stream.proofs.AskingLaws.{near_first, near_next}

apart-more : (search search' near near' : ℕ → Type 0) (n m : ℕ) (ps : List ℕ) → ((p : ℕ) → search p → search' p) → ((p : ℕ) → near p → near' p) → n ≤ m → AreApart search near n ps → AreApart search' near' m ps
unfolding AreApart
apart-more search search' near near' n m [] f g most apart = tt
apart-more search search' near near' n m (p ∷ ps) f g most (inl one) = inl (f p one.0, apart-more search search' near near' n m ps f g most one.1)
apart-more search search' near near' n m (p ∷ ps) f g most (inr one) =
    let some = one.0 in inr (omega (arith, some, most), g p one.1, apart-more search search' near near' (n - 1) (m - 1) ps f g (omega (arith, most)) one.2)

apart-append : (search search' search'' near near' near'' : ℕ → Type 0) (n m : ℕ) (ps qs : List ℕ) → ((p : ℕ) → search p → search'' p) → ((p : ℕ) → search' p → search'' p) → ((p : ℕ) → near p → near'' p) → ((p : ℕ) → near' p → near'' p)
    → AreApart search near n ps → AreApart search' near' m qs → AreApart search'' near'' (n + m) (ps ++ qs)
unfolding AreApart
apart-append search search' search'' near near' near'' n m [] qs f f' g g' one two = apart-more search' search'' near' near'' m (n + m) qs f' g' (omega arith) two
apart-append search search' search'' near near' near'' n m (p ∷ ps) qs f f' g g' (inl one) two = inl (f p one.0, apart-append search search' search'' near near' near'' n m ps qs f f' g g' one.1 two)
apart-append search search' search'' near near' near'' n m (p ∷ ps) qs f f' g g' (inr one) two =
    let some = one.0 in
    let count : n - 1 + m ≡ n + m - 1 = omega (arith, some) in
    inr (omega (arith, some), g p one.1, subst (λ (k : ℕ). AreApart search'' near'' k (ps ++ qs)) count (apart-append search search' search'' near near' near'' (n - 1) m ps qs f f' g g' one.2 two))

near-apart : (search near : ℕ → Type 0) (n : ℕ) (ps : List ℕ) → AllByRecursion near ps → length ps ≤ n → AreApart search near n ps
unfolding AreApart
near-apart search near n [] all few = tt
near-apart search near n (p ∷ ps) all few = inr (omega (arith, few), all.0, near-apart search near (n - 1) ps all.1 (omega (arith, few)))

-- one call after another
pub apart_on : (search search' search'' : ℕ → Type 0) (low mid high : ℕ) (a b c : SourceView) → ((p : ℕ) → search p → search'' p) → ((p : ℕ) → search' p → search'' p) → low ≤ mid → mid ≤ high
    → AsksApart search low mid a b → AsksApart search' mid high b c → AsksApart search'' low high a c
apart_on search search' search'' low mid high a b c f g below above one two =
    let count : mid - low + (high - mid) ≡ high - low = omega (arith, below, above) in
    record {
      pages = one.pages ++ two.pages;
      apart = subst (λ (n : ℕ). AreApart search'' (InSpan low (high - low)) n (one.pages ++ two.pages)) count
          (apart-append search search' search'' (InSpan low (mid - low)) (InSpan mid (high - mid)) (InSpan low (high - low)) (mid - low) (high - mid) one.pages two.pages f g
          (λ p x. near_first low mid high p below above x) (λ p x. near_next low mid high p below above x) one.apart two.apart);
      asks = asks_for_on one.pages two.pages one.asks two.asks;
    }

-- pages between two places alone
pub apart_near : (search : ℕ → Type 0) (low high : ℕ) (a b : SourceView) → AsksNear low high a b → AsksApart search low high a b
apart_near search low high a b near = record { pages = near.pages; apart = near-apart search (InSpan low (high - low)) (high - low) near.pages near.in_span near.few; asks = near.asks }

pub apart_none : (search : ℕ → Type 0) (at : ℕ) (source : SourceView) → AsksApart search at at source source
unfolding AreApart
apart_none search at source = record { pages = []; apart = tt; asks = asks_for_none source }

-- pages of a search alone
pub apart_all : (search near : ℕ → Type 0) (n : ℕ) (ps : List ℕ) → AllByRecursion search ps → AreApart search near n ps
unfolding AreApart
apart_all search near n [] all = tt
apart_all search near n (p ∷ ps) all = inl (all.0, apart_all search near n ps all.1)
