-- What an opening finds in each state of an epoch.
use Rattle.std.proofs.Common.{◌≡◌, ◌≢◌, ◌⊎◌, ℕ, ◌^◌, ◌<◌, List, length, take, slice_index, set, sym, subst, ap, ◌∙◌}
use Rattle.std.proofs.Common.{inl, inr, ⊎_elim}
use Rattle.std.specs.Prelude.{All}
use Rattle.std.proofs.lemmas.Bool.{cases_eq}
use Rattle.std.proofs.lemmas.List.{set-get_or}
use Rattle.host_model.specs.Files.{Contents}
use Rattle.gds_images.specs.Group.{Image, gate_behind}
use Rattle.gds_images.specs.Outcome.{IsClosed, IsWhole}
use Rattle.gds_images.proofs.RestLemmas.{rest_found}
use Rattle.gds_epoch.specs.Epoch.{IsImageOf}
use Rattle.gds_epoch.specs.State.{Finds, HasGroup, LeadsBack, Rests}
use Rattle.gds_epoch.proofs.BackLemmas.{is_closed, recovered_back}

-- At rest it finds the database that rests there.
pub rest_finds : (image : List ℕ) (before c : Contents) → Rests image before c → Finds image before c
rest_finds image before c rests = record { recovers = rest_found image c rests.rest; said = rests.said }

-- A file with a group is closed where the byte of gate 0 says so.
pub group_closed : (epoch : List ℕ) (images : List Image) (file : List ℕ)
    → HasGroup (length epoch) images file → slice_index file 8 ≡ 0 → IsClosed file
group_closed epoch images file has zero =
    let same : set file 8 0 ≡ file = ap (set file 8) (sym zero) ∙ set-get_or file 8 0 in
    subst IsClosed same (is_closed epoch images file has)

module _ (epoch : List ℕ) (images : List Image) (before : Contents) (whole : IsWhole epoch)
    (old : All (IsImageOf epoch) images) (short : length epoch < 2 ^ 63) (ends : gate_behind 8 images < 2 ^ 63) where
  -- With the gate open it finds the epoch's database.
  pub open_finds : (c : Contents) → LeadsBack epoch images before c → slice_index c.images 8 ≢ 0 → Finds epoch before c
  open_finds c leads opened = record {
    recovers = recovered_back epoch images c.images leads.group old short ends opened c.db leads.outside whole;
    said = leads.said;
  }

  -- With another database in the file it finds one of the two, by the byte of the gate.
  pub gate_finds : (next : List ℕ) (c : Contents) → IsWhole next → LeadsBack epoch images before c
      → take (length next) c.db ≡ next → Finds epoch before c ⊎ Finds next before c
  gate_finds next c whole_next leads front =
      ⊎_elim
      (λ (zero : slice_index c.images 8 ≡ 0).
      inr (rest_finds next before c (record {
        rest = record {
          closed = group_closed epoch images c.images leads.group zero;
          whole = whole_next;
          front = front;
        };
        said = leads.said;
      })))
      (λ (opened : slice_index c.images 8 ≢ 0). inl (open_finds c leads opened))
      (cases_eq (slice_index c.images 8) 0)
