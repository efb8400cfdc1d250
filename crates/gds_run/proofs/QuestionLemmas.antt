-- What questions about a node are answered.
use Rattle.std.proofs.Common.{◌≡◌, ℕ, ◌<◌, Bool, false, List, length, Option, MatchBool, arith, refl}
use Rattle.std.proofs.Common.{sym, ap, subst, le-ltb, Err, Ok}
use Rattle.std.specs.Option.{ForSome}
use Rattle.m_key.specs.Globals.{Place}
use Rattle.m_key.specs.Key.{key_bytes}
use Rattle.gds_header.specs.Fields.{fields_of}
use Rattle.gds_header.specs.declared.header.Header.{Header}
use Rattle.gds_sound.specs.Questions as questions
use Rattle.gds_units.specs.State.{UnitsState, image_of}
use Rattle.gds_words.specs.Script as asked
use Rattle.gds_globals.specs.Node.{HasValue}
use Rattle.gds_globals.specs.Questions.{FindsNext, FindsNode, HasData}
use Rattle.gds_script.specs.declared.answer.Answer.{Answer}
use Rattle.gds_script.specs.declared.answer.Answer.TheVariants.{Data}
use Rattle.gds_script.specs.Script.{AnswersQuestion, State, Tells, TellsNext, TellsNode, TellsValue, is_long, long_key}
use Rattle.gds_run.specs.Request.{IsAnswered, IsStateOf}

pub no_error : {T E : Type 0} {value : T} {e : E} → Ok value ≡ Err e → ⊥
no_error is = absurd (cc)

-- The key of the node isn't too long, and the image stays.
module _ {H : Type 0} (old new : UnitsState H) (p : Place)
    (fields : ForSome (image_of old) (λ image. fields_of image ≡ old.header)) (same : image_of new ≡ image_of old)
    (short : old.header.key_max < length (key_bytes p.node) → ⊥) where
  asked_here : (answer : Answer) (so : State → Type 0) → ((state : State) → IsStateOf old state → so state)
      → (state : State) → IsStateOf old state → AnswersQuestion p.node state answer state (so state)
  asked_here answer so each state is =
      let here = ap (λ (h : Header). h.key_max) (fields state.image is.image_is) in
      let test : is_long p.node state ≡ false =
      le-ltb (fields_of state.image).key_max (length (key_bytes p.node)) (omega (arith, here, short)) in
      (subst (λ t. MatchBool t (answer ≡ long_key p.node) (so state)) (sym test) (each state is), refl)

  pub value_told : (found : Option (List ℕ)) (answer : Answer) → TellsValue found answer
      → ForSome (image_of old) (λ image. HasValue image p found) → IsAnswered old new (asked.get p.node) answer
  value_told found answer tells has = (
    same,
    asked_here answer (λ state. Tells p.node state.map answer)
        (λ state is. record {
          place = p;
          node_is = refl;
          tells = subst (λ value. TellsValue value answer)
              (sym (has state.image is.image_is state.map is.stands)) tells;
        }),
  )

  pub next_told : (first : Bool) (found : Option questions.Next) (answer : Answer) → TellsNext found answer
      → ForSome (image_of old) (λ image. FindsNext image p.node first found)
      → IsAnswered old new (asked.order p.node first) answer
  next_told first found answer tells has = (
    same,
    asked_here answer (λ state. TellsNext (questions.order_of state.map p.node first) answer)
        (λ state is. subst (λ next. TellsNext next answer)
        (sym (has state.image is.image_is state.map is.stands)) tells),
  )

  pub data_told : (found : ℕ) → ForSome (image_of old) (λ image. HasData image p.node found)
      → IsAnswered old new (asked.data_of p.node) (Data found)
  data_told found has = (
    same,
    asked_here (Data found) (λ state. Data found ≡ Data (questions.data_of state.map p.node))
        (λ state is. ap (λ n. Data n) (sym (has state.image is.image_is state.map is.stands))),
  )

  pub node_told : (found : Option Place) (answer : Answer) → TellsNode found answer
      → ForSome (image_of old) (λ image. FindsNode image p.node found)
      → IsAnswered old new (asked.query p.node) answer
  node_told found answer tells has = (
    same,
    asked_here answer (λ state. TellsNode (questions.query_of state.map p.node) answer)
        (λ state is. subst (λ next. TellsNode next answer)
        (sym (has state.image is.image_is state.map is.stands)) tells),
  )
