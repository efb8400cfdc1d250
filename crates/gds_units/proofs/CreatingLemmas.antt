-- What is known of a new database.
use Rattle.std.proofs.Common.{◌≡◌, ◌≤◌, ℕ, take, Option, None, Some, refl, sym, ap, subst, ◌∙◌}
use Rattle.std.specs.Option.{ForSome}
use Rattle.host_model.specs.Files.{Contents}
use Rattle.host_model.specs.Moments.{EachLeft, HasCome}
use Rattle.host_model.specs.Told.{TellsOn}
use Rattle.host_model.proofs.MomentLemmas.{LeavesTheSame-refl}
use Rattle.gds_header.specs.Fields.{fields_of}
use Rattle.gds_header.specs.Kinds.{IsWithinLimits}
use Rattle.gds_header.specs.declared.header.Header.{Header}
use Rattle.gds_images.specs.Outcome.{IsWhole}
use Rattle.gds_new.specs.NewDatabase.{new_header}
use Rattle.gds_new.proofs.HeaderLemmas.{new_limits}
use Rattle.gds_new.proofs.ReadLemmas.{fields_read, nothing_ends, whole_read}
use Rattle.gds_create.specs.Newborn.{IsEmpty, IsMade, IsNewborn}
use Rattle.gds_create.proofs.MakingLemmas.{unwritten_come}
use Rattle.gds_epoch.proofs.ToldLemmas.{told_before}
use Rattle.gds_recovery.specs.Found.{IsUnwritten}
use Rattle.gds_units.specs.Opening.{HoldsWhole}

-- The files of a new database are whole.
made_whole : (h : Header) → IsWithinLimits h → (before c : Contents) → IsMade h before c → HoldsWhole (new_header h) c
made_whole h limits before c made = record {
  closed = ap (take 9) made.images;
  whole = subst IsWhole (sym made.db) (record { readable = nothing_ends h limits; len = whole_read h limits });
  fields = sym (fields_read h limits) ∙ ap fields_of (sym made.db);
}

-- so it is with the header that was answered
pub made_holds : (h made : Header) → IsWithinLimits h → made ≡ new_header h → (old new : Option Contents)
    → (old ≡ None → new ≡ None) → TellsOn old new (IsMade h) → ForSome new (HoldsWhole made)
made_holds h made limits is old new untold tells now told =
    let was = told_before old new (IsMade h) now untold told tells in
    subst (λ (header : Header). HoldsWhole header now) (sym is) (made_whole h limits was.0 now was.2)

pub made_limits : (h made : Header) → IsWithinLimits h → made ≡ new_header h → IsWithinLimits made
made_limits h made limits is = subst IsWithinLimits (sym is) (new_limits h limits)

-- Where no call was made, an opening finds nothing but empty files.
pub none_come : {H : Type 0} {contents : H → Option Contents} {moment : H → ℕ}
    {left_since : H → ℕ → Contents → Type 0}
    (longer : (host : H) (t u : ℕ) (c : Contents) → t ≤ u → left_since host u c → left_since host t c)
    (said_stays : (host : H) (now c : Contents) → contents host ≡ Some now → left_since host (moment host) c
    → c.said ≡ now.said)
    (h : Header) (host : H) (before : Contents) → contents host ≡ Some before → EachLeft moment left_since host IsEmpty
    → HasCome moment left_since host host (IsNewborn h before) (IsNewborn h before)
none_come {H} {contents} {moment} {left_since} longer said_stays h host before tells each =
    let same : IsUnwritten contents moment left_since host host =
    record { told = refl; crash = LeavesTheSame-refl moment left_since host } in
    unwritten_come longer h before same each (λ c left. said_stays host before c tells left)
