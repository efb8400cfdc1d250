-- Laying back behind an open gate, call by call.
use Rattle.std.proofs.Common.{◌≡◌, ◌≢◌, ℕ, ◌≤◌, length, take, Ok, sym}
use Rattle.std.proofs.Common.{None, Option, Some, subst}
use Rattle.std.specs.Option.{ForSome}
use Rattle.host_model.specs.declared.host.FileNo.TheVariants.{Db, Images}
use Rattle.host_model.specs.Disk.{Changes, Cut, Settles, Torn, during}
use Rattle.host_model.specs.Failures.{Failures, NeverFell}
use Rattle.host_model.specs.Files.{Contents, with_file}
use Rattle.host_model.specs.Moments.{EachLeft, HasCome, LeavesBy}
use Rattle.host_model.specs.Told.{TellsOn}
use Rattle.host_model.proofs.ChainLemmas.{come_by, come_from, come_now}
use Rattle.host_model.proofs.FileLemmas.{contents_agree}
use Rattle.gds_images.specs.declared.chain.Chain.{Chain}
use Rattle.gds_images.specs.Chain.{chain_of, first_gate}
use Rattle.gds_images.specs.Recovered.{laid}
use Rattle.gds_recovery.specs.Found.{FindsSame}
use Rattle.gds_recovery.specs.Steps.{LaysOver, StaysFound, WasChangedBy}
use Rattle.gds_recovery.proofs.EpochLemmas.{open_beside, epoch_low}
use Rattle.gds_recovery.proofs.FoundLemmas.{FindsSame-refl, IsBeingLaid, being_laid_found, cut_being, gate_found}
use Rattle.gds_recovery.proofs.FoundLemmas.{laid_being}
use Rattle.gds_recovery.proofs.FoundLemmas.{torn_gate}
use Rattle.gds_recovery.proofs.StayLemmas.{stays}
use Rattle.gds_recovery.proofs.WorkLemmas.{changed_somehow, changed_then}

-- the files once the images are laid back and the database file is cut
abbrev pub at_epoch : Contents → Chain → Contents
at_epoch c chain = with_file Db (take chain.epoch_length (laid c.images chain.images c.db)) c

module _ {H : Type 0} {moment : H → ℕ} {left_since : H → ℕ → Contents → Type 0}
    (longer : (host : H) (t u : ℕ) (c : Contents) → t ≤ u → left_since host u c → left_since host t c)
    (c : Contents) (chain : Chain) (ok : chain_of c.images (length c.db) ≡ Ok chain)
    (not_first : chain.next_gate ≢ first_gate) where
  -- once the images are laid over it, or some of them
  pub come_laid : {old mid : H} → EachLeft moment left_since old (λ d. d ≡ c)
      → LeavesBy moment left_since (Changes Db (LaysOver chain.images)) old mid
      → HasCome moment left_since old mid (FindsSame c) (IsBeingLaid c chain ok not_first)
  come_laid {old} {mid} stable by =
      let step = Changes Db (LaysOver chain.images) in
      let being : (d : Contents) → during step (λ d. d ≡ c) d → IsBeingLaid c chain ok not_first d =
      λ d is. laid_being c chain ok not_first d
      (subst (λ (b : Contents). Changes Db (LaysOver chain.images) b d) is.1 is.2) in
      let start : HasCome moment left_since old old (FindsSame c) (λ d. d ≡ c) =
      come_from old (FindsSame c) (λ d. d ≡ c) stable
      (λ d is. subst (λ (b : Contents). FindsSame c b) (sym is) (FindsSame-refl c)) in
      come_now (IsBeingLaid c chain ok not_first)
      (come_by longer step start by (λ d is. being_laid_found c chain ok not_first d (being d is))) being

  -- and it was cut, or in part
  pub come_cut_back : {old mid new : H}
      → HasCome moment left_since old mid (FindsSame c) (IsBeingLaid c chain ok not_first)
      → LeavesBy moment left_since (Changes Db (Cut chain.epoch_length)) mid new
      → HasCome moment left_since old new (FindsSame c) (IsBeingLaid c chain ok not_first)
  come_cut_back come by =
      let step = Changes Db (Cut chain.epoch_length) in
      let being : (e : Contents) → during step (IsBeingLaid c chain ok not_first) e
      → IsBeingLaid c chain ok not_first e =
      λ e is. cut_being c chain ok not_first is.0 e is.1 is.2 in
      come_now (IsBeingLaid c chain ok not_first)
      (come_by longer step come by (λ e is. being_laid_found c chain ok not_first e (being e is))) being

  -- and that is stable
  pub come_back : {old new : H}
      → HasCome moment left_since old new (FindsSame c) (IsBeingLaid c chain ok not_first)
      → Settles Db (take chain.epoch_length (laid c.images chain.images c.db)) (left_since new (moment new))
      → HasCome moment left_since old new (FindsSame c) (λ d. d ≡ at_epoch c chain)
  come_back come settled = record {
    only = come.only;
    each = λ d left.
        let being = come.each d left in
        contents_agree d (at_epoch c chain) (settled d left) being.images being.said;
  }

  -- and the gate was written, or its byte is any
  pub come_closed : {old mid new : H} → HasCome moment left_since old mid (FindsSame c) (λ d. d ≡ at_epoch c chain)
      → LeavesBy moment left_since (Changes Images (Torn first_gate 1)) mid new
      → HasCome moment left_since old new (FindsSame c)
      (during (Changes Images (Torn first_gate 1)) (λ d. d ≡ at_epoch c chain))
  come_closed come by =
      let low = epoch_low c.images (length c.db) chain ok not_first in
      let gate = (open_beside c.images (length c.db) chain ok not_first (length c.db) low).begins.gate in
      come_by longer (Changes Images (Torn first_gate 1)) come by
      (λ d is.
      let step = subst (λ (b : Contents). Changes Images (Torn first_gate 1) b d) is.1 is.2 in
      gate_found c chain ok not_first d (step.other Db (λ e. cc))
      (torn_gate c.images d.images gate step.changed) step.said)

-- Over a host that may tell its contents: an opening finds the same after all of it, whether the gate could be closed
-- or not.
module _ {H : Type 0} {contents : H → Option Contents} {moment : H → ℕ} {counts : H → Failures}
    {left_since : H → ℕ → Contents → Type 0}
    (longer : (host : H) (t u : ℕ) (c : Contents) → t ≤ u → left_since host u c → left_since host t c)
    (now_left : (host : H) (c : Contents) → contents host ≡ Some c → left_since host (moment host) c)
    (chain : Chain) (not_first : chain.next_gate ≢ first_gate) where
  pub stays_closed : {old over cut new : H} (R : Contents → Contents → Type 0)
      → ForSome (contents old) (λ c. chain_of c.images (length c.db) ≡ Ok chain)
      → ForSome (contents old) (λ c. EachLeft moment left_since old (λ d. d ≡ c))
      → WasChangedBy contents moment counts left_since (Changes Db (LaysOver chain.images)) old over
      → ForSome (contents old) (λ c.
      contents over ≡ Some (with_file Db (laid c.images chain.images c.db) c))
      → WasChangedBy contents moment counts left_since (Changes Db (Cut chain.epoch_length)) over cut
      → ForSome (contents over) (λ c.
      Settles Db (take chain.epoch_length c.db) (left_since cut (moment cut)))
      → TellsOn (contents cut) (contents new) R → (contents cut ≡ None → contents new ≡ None)
      → LeavesBy moment left_since (Changes Images (Torn first_gate 1)) cut new
      → NeverFell (counts cut) (counts new) → StaysFound contents moment counts left_since old new
  stays_closed {old} {over} {cut} {new} R ok stable lay told_laid is_cut settled tells untold closing failures =
      let any : Contents → Contents → Type 0 = λ x y. Unit {0} in
      let back = changed_then longer any lay is_cut (λ x y r. tt) (λ x y z r s. tt) in
      let closed = changed_somehow R (Changes Images (Torn first_gate 1)) tells untold closing failures in
      stays longer now_left (changed_then longer any back closed (λ x y r. tt) (λ x y z r s. tt))
      (λ c is.
      let first = come_laid longer c chain (ok c is) not_first (stable c is) lay.crash in
      let second = come_cut_back longer c chain (ok c is) not_first first is_cut.crash in
      let third = come_back longer c chain (ok c is) not_first second
      (settled (with_file Db (laid c.images chain.images c.db) c) (told_laid c is)) in
      (come_closed longer c chain (ok c is) not_first third closing).only)
