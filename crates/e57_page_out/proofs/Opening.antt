-- The opening: the file is created, and page 0 is put as zeros.
use Rattle.std.proofs.Common.{◌≡◌, ℕ, ◌+◌, false, List, [], replicate, slice_index, Option, Some, None, IfSome, Ok, Err, refl, sym, ap, subst, ◌∙◌, arith, lit≤, lit<, if◌then◌else◌, ◌==◌}
use Rattle.std.specs.Option.{option_map}
use Rattle.std.proofs.lemmas.List.{append-nil}
use Rattle.e57_base.proofs.CountLaws.{rose_before}
use Rattle.e57_base.specs.Target.{TargetView, Creates, PutsPage, with_page, emptied}
use Rattle.e57_base.specs.declared.fault.Failed.{Failed}
use Rattle.e57_page_out.specs.Buffer.{bytes_so_far, begun_first, IsRow, IsSound, writing}
use Rattle.e57_page_out.specs.Writing.{IsBegun, IsNotBegun}
use Rattle.e57_page_out.proofs.Rows.{row_first, logical_blank}
use Rattle.e57_page_out.proofs.States.{told_after, told_same, sound_state}
use Rattle.e57_page_out.proofs.Unfinished.{torn_first}

module _ (old mid : TargetView) (name : List ℕ) (e : Unit {0}) (creates : Creates {T = Unit {0}} old name (Ok e) mid) where
  empty : (P : List ℕ → Type 0) → P [] → IfSome mid.held P
  empty P is = subst (λ o. IfSome o P) (sym creates.held) (at_none old.held) where
    at_none : (held : Option (List ℕ)) → IfSome (emptied held) P
    at_none None = tt
    at_none (Some file) = is

  module _ (new : TargetView) (f : Unit {0}) (puts : PutsPage {T = Unit {0}} mid 0 (replicate 1024 0) (Ok f) new) where
    blank_put : (file : List ℕ) → file ≡ [] → with_page 0 (replicate 1024 0) file ≡ replicate 1024 0
    blank_put file none = rw none (append-nil (replicate {A = ℕ} 1024 0))

    pub begun_sound : IsSound new begun_first
    begun_sound =
        record {
          page = refl;
          kept = refl;
          short = lit< tt;
          behind = lit≤ tt;
          limit = lit≤ tt;
          pages = puts.pages ∙ ap (option_map (λ pages. if 0 == pages then pages + 1 else pages)) creates.pages;
          unended = puts.finished;
          held = tt;
          file = told_after (with_page 0 (replicate 1024 0)) (λ file. file ≡ []) (λ file. IsRow 1 file) mid.held new.held (λ file none. subst (λ file. IsRow 1 file) (sym (blank_put file none)) row_first) (empty (λ file. file ≡ []) refl) puts.held;
        }

    first_bytes : (file : List ℕ) → file ≡ [] → bytes_so_far begun_first (with_page 0 (replicate 1024 0) file) ≡ replicate 1020 0
    first_bytes file none = ap (bytes_so_far begun_first) (blank_put file none) ∙ (append-nil _ ∙ logical_blank)

    begun_bytes : option_map (bytes_so_far begun_first) new.held ≡ option_map (λ _. replicate 1020 0) old.held
    begun_bytes =
        told_same (bytes_so_far begun_first) (λ _. replicate 1020 0) (with_page 0 (replicate 1024 0)) (λ file. file ≡ []) mid.held new.held first_bytes (empty (λ file. file ≡ []) refl) puts.held
        ∙ ap (option_map (λ _. replicate 1020 0)) creates.held
        ∙ twice old.held
      where
        twice : (held : Option (List ℕ)) → option_map (λ _. replicate {A = ℕ} 1020 0) (emptied held) ≡ option_map (λ _. replicate 1020 0) held
        twice None = refl
        twice (Some file) = refl

    pub is_begun : {T : Type 0} (view : T → TargetView) (target : T) → view target ≡ new → IsBegun view old name (writing view target begun_first false)
    is_begun view target is =
        record {
          bytes = rw is begun_bytes;
          size = refl;
          held = refl;
          state = sound_state view target begun_first (rw is begun_sound);
          created = rw is (puts.created ∙ creates.created);
          named = rw (is, puts.named) creates.named;
          faults = rw is (let a = creates.faults in let b = puts.faults in omega arith);
        }

  pub page_not_begun : (new : TargetView) (f : Failed) → PutsPage {T = Unit {0}} mid 0 (replicate 1024 0) (Err f) new → IsNotBegun old name new
  page_not_begun new f puts =
      record {
        state = rw (puts.pages, creates.pages, puts.named) (refl, creates.named, torn_first (replicate 1024 0) mid.held new.held puts.held (empty (λ file. slice_index file 0 ≡ 0) refl) refl);
        unended = puts.finished;
        created = puts.created ∙ creates.created;
        faults = let a = creates.faults in let b = puts.faults in omega arith;
        cause = rose_before old.faults mid.faults new.faults creates.faults puts.cause;
      }
