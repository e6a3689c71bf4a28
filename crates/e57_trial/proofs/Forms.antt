-- Files in memory that are written forms of one content.
use Rattle.std.proofs.Common.{◌≡◌, ℕ, false, List, [], None, Result, Ok, Err, sym, subst, ap, ◌∙◌, ⊎_elim}
use Rattle.std.specs.Prelude.{IfSome, MatchResult}
use Rattle.std.proofs.lemmas.Option.{same_Some}
use Rattle.e57_base.specs.BytesSource.{BytesState, bytes_view}
use Rattle.e57_base.specs.MemTarget.{TargetState, target_view}
use Rattle.e57_base.specs.declared.fault.AskFault.{AskFault}
use Rattle.e57_base.specs.declared.fault.AskFault.TheVariants as of_ask
use Rattle.e57_base.specs.declared.fault.RunFault.{RunFault}
use Rattle.e57_base.specs.declared.fault.RunFault.TheVariants.{Refused, Source, Out, Memory, Ask}
use Rattle.e57_base.proofs.Told.{told_is}
use Rattle.e57_verdict.specs.Content.{Content, IsContent}
use Rattle.e57_verdict.specs.Verdict.{IsVerdict, refused}
use Rattle.e57_plain.specs.Written.{IsWritable, plain}
use Rattle.e57_copy.specs.Rewriting.{FallsShort, Gives, LeavesPart, Rewrites, RewritesNot}
use Rattle.e57_repack.specs.Repacking.{repacking}
use Rattle.e57_trial.specs.Accepted.{HasColumns, HasOpen, IsAccepted, IsForm, IsWant}
use Rattle.e57_trial.specs.Content.{columns_from, trial_content, trial_sum}
use Rattle.e57_trial.specs.Summing.{first_sum}
use Rattle.e57_trial.proofs.OneCloud.{IsOneContent}
use Rattle.e57_trial.proofs.Opening.{never-rose, not-rejected, told-open, IsOneVerdict}
use Rattle.e57_trial.proofs.Sums.{trial-bodies, trial-sum-is}

-- ---- a file written anew

second-form : IsOneContent → (chunk total : ℕ) (file : List ℕ) (source : BytesState) (target now : TargetState) (content : Content) → HasOpen file source
    → Rewrites (repacking chunk false) (bytes_view source) (target_view target) [] total (target_view now) → IsContent file content → IsForm chunk content now.bytes
second-form one chunk total file source target now content has written is =
    let gives : Gives (repacking chunk false) file written.content = told_is (λ file. Gives (repacking chunk false) file written.content) (bytes_view source).held file (told-open source file has) written.of_file in
    let same : written.content ≡ content = gives.gives ∙ one file gives.old content gives.of_file is in
    record {
      writable = subst (λ (c : Content). IsWritable chunk c) same written.writable;
      is_plain = same_Some now.bytes (plain chunk written.content) written.held ∙ ap (plain chunk) same;
    }

module _ (chunk : ℕ) (file : List ℕ) (old new : BytesState) (target now : TargetState) (has : HasOpen file old) where
  never-short : (why : AskFault) → (now ≡ target) × IfSome (bytes_view old).held (λ file. FallsShort (repacking chunk false) file why) → ⊥
  never-short why lost = (told_is (λ file. FallsShort (repacking chunk false) file why) (bytes_view old).held file (told-open old file has) lost.1).short

  never-none : (bytes_view old).held ≡ None → ⊥
  never-none none = let told = sym none ∙ told-open old file has in absurd cc

  want-of-ask : (why : AskFault) → RewritesNot target_view (repacking chunk false) (bytes_view old) (bytes_view new) target [] (Ask why) now → IsWant (Ask why)
  want-of-ask of_ask.Large lost = tt
  want-of-ask (of_ask.Cloud a b) lost = absurd (never-short (of_ask.Cloud a b) lost)
  want-of-ask (of_ask.Blob a b) lost = absurd (never-short (of_ask.Blob a b) lost)
  want-of-ask (of_ask.Field a b) lost = absurd (never-short (of_ask.Field a b) lost)
  want-of-ask (of_ask.Keep a b) lost = absurd (never-short (of_ask.Keep a b) lost)
  want-of-ask (of_ask.NotInteger a b) lost = absurd (never-short (of_ask.NotInteger a b) lost)
  want-of-ask (of_ask.Range a b) lost = absurd (never-short (of_ask.Range a b) lost)
  want-of-ask (of_ask.Decimal a b) lost = absurd (never-short (of_ask.Decimal a b) lost)
  want-of-ask (of_ask.Clash a b) lost = absurd (never-short (of_ask.Clash a b) lost)
  want-of-ask (of_ask.Length a b) lost = absurd (never-short (of_ask.Length a b) lost)
  want-of-ask (of_ask.Header a b) lost = absurd (never-short (of_ask.Header a b) lost)
  want-of-ask (of_ask.Width a b) lost = absurd (never-short (of_ask.Width a b) lost)
  want-of-ask (of_ask.Cell a b) lost = absurd (never-short (of_ask.Cell a b) lost)

  want-of-repack : IsOneVerdict → IsAccepted file → (fault : RunFault) → RewritesNot target_view (repacking chunk false) (bytes_view old) (bytes_view new) target [] fault now → IsWant fault
  want-of-repack one good (Refused found) lost =
      absurd (⊎_elim
      (λ (first : (now ≡ target) × IfSome (bytes_view old).held (λ file. IsVerdict file (refused found))).
      not-rejected one file found good (told_is (λ file. IsVerdict file (refused found)) (bytes_view old).held file (told-open old file has) first.1))
      (λ (later : ((bytes_view old).held ≡ None) × LeavesPart (target_view target) [] (target_view now)). never-none later.0) lost)
  want-of-repack one good Source lost = absurd (never-rose lost.0)
  want-of-repack one good Out lost = tt
  want-of-repack one good Memory lost = tt
  want-of-repack one good (Ask why) lost = want-of-ask why lost

  -- what a call of `repack` answers
  abbrev Answers : Result ℕ RunFault → Type 0
  Answers result = MatchResult result
      (λ total. Rewrites (repacking chunk false) (bytes_view old) (target_view target) [] total (target_view now))
      (λ fault. RewritesNot target_view (repacking chunk false) (bytes_view old) (bytes_view new) target [] fault now)

  pub repack-want : IsOneVerdict → IsAccepted file → (result : Result ℕ RunFault) (fault : RunFault) → result ≡ Err fault → Answers result → IsWant fault
  repack-want one good (Ok total) fault is answer = absurd cc
  repack-want one good (Err other) fault is answer = let same : other ≡ fault = cc in subst IsWant same (want-of-repack one good other answer)

  pub repack-form : IsOneContent → (result : Result ℕ RunFault) (total : ℕ) → result ≡ Ok total → Answers result → (content : Content) → IsContent file content → IsForm chunk content now.bytes
  repack-form one (Ok other) total is answer content of = second-form one chunk other file old target now content has answer of
  repack-form one (Err fault) total is answer content of = absurd cc

-- ---- both

-- a written form has its content
abbrev pub AreForms : Type 0
AreForms = (n : ℕ) (content : Content) → IsWritable n content → IsContent (plain n content) content

pub form-content : AreForms → (chunk : ℕ) (content : Content) (file : List ℕ) → IsForm chunk content file → IsContent file content
form-content forms chunk content file is = subst (λ (f : List ℕ). IsContent f content) (sym is.is_plain) (forms chunk content is.writable)

pub trial-columns : (start count : ℕ) (file : List ℕ) → IsContent file (trial_content start count) → HasColumns file (columns_from start 0 count)
trial-columns start count file is = record { content = trial_content start count; of_file = is; one = trial-bodies start count }

pub trial-total : (start count total : ℕ) → total ≡ first_sum (columns_from start 0 count) → total ≡ trial_sum start count
trial-total start count total is = is ∙ trial-sum-is start count
