-- Places that become new in a map, and maps that come into a draft, one after another.
use Rattle.std.proofs.Common.{ℕ, ◌+◌, ◌*◌, ◌<◌, ◌≤◌, List, inl, inr, sym, ap, subst, ◌∙◌, arith}
use Rattle.std.proofs.lemmas.Bool.{cases_eq}
use Rattle.gds_bitmap.specs.declared.state.State.TheVariants.{New}
use Rattle.gds_bitmap.specs.Bitmap.{Marks, state_at}
use Rattle.gds_bitmap.proofs.FreshLemmas.{take-Marks}
use Rattle.gds_draft.specs.Draft.{DraftState, IsDraft, with_block}
use Rattle.gds_draft.proofs.PutLemmas.{put_there}
use Rattle.gds_base.specs.Reserve.{GetsMaps, GetsPlaces, HasNewMap, IsNewMap}
use Rattle.gds_base.specs.Spaces.{present_in}

pub one_more_place : (first old new : List ℕ) (from k : ℕ) → from ≤ k → k < 512 → GetsPlaces first old from k
    → Marks old new k New → GetsPlaces first new from (k + 1)
one_more_place first old new from k low small places marks = record {
  came = λ j above below. elim (cases_eq j k) [
    | inl same ↦ ap (state_at new) same ∙ marks.marked
    | inr other ↦ marks.others j other ∙ places.came j above (omega (arith, below, other))
  ];
  before = λ j below. marks.others j (λ e. omega (arith, e, below, low)) ∙ places.before j below;
  past = λ j above. marks.others j (λ e. omega (arith, e, above)) ∙ places.past j (omega (arith, above));
  head = take-Marks old new k New marks small ∙ places.head;
  len = marks.len ∙ places.len;
}

pub one_more_map : (first old : DraftState) (tn from group : ℕ) (map : List ℕ) → from ≤ group → IsDraft old
    → GetsMaps first old tn from group → IsNewMap map tn (present_in first.header group)
    → GetsMaps first (with_block old (512 * group) map) tn from (group + 1)
one_more_map first old tn from group map low is maps new =
    let put = put_there old (512 * group) map is in
    record {
      header = maps.header;
      maps = λ g above below. elim (cases_eq g group) [
        | inl same ↦ subst (HasNewMap (with_block old (512 * group) map) tn) (sym same) (record {
          map = map;
          has = put.there;
          new = subst (λ h. IsNewMap map tn (present_in h group)) (sym maps.header) new;
        })
        | inr other ↦
            let had = maps.maps g above (omega (arith, below, other)) in
            record {
              map = had.map;
              has = put.others (512 * g) (λ e. other (omega (arith, e))) ∙ had.has;
              new = had.new;
            }
      ];
      others = λ n apart.
          put.others n (apart group low (omega arith))
          ∙ maps.others n (λ g above below. apart g above (omega (arith, below)));
    }
