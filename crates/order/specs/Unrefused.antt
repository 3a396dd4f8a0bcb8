-- What is known where an order is written, and the answer where none is.
use Rattle.std.specs.Prelude.{ℕ, ◌≤◌, ◌≡◌, false, List, length}
use Rattle.model.specs.declared.OrderAnswer.{OrderAnswer}
use Rattle.model.specs.declared.Refusal.{Refusal}
use Rattle.model.specs.Answers.{refusal_answer}
use Rattle.model.specs.Bounds.{most_loads}
use Rattle.model.specs.Order.{starting, wrong_names, some_blocked}
use Rattle.starts.specs.Places.{running_in}

-- a refusal with line 0
abbrev pub refused_order : Refusal → OrderAnswer
refused_order r = record { answer = refusal_answer r 0; starts = 0; stops = 0 }

-- neither 15 nor 16 nor 11 applies to the loads whose numbers stand in the arrays, and so many of them start
pub record Unrefused (running planned names : List ℕ) (starts room : ℕ) : Type 0 where
  pub few : length names ≤ most_loads
  pub right : wrong_names (length names) names ≡ false
  pub free : some_blocked (length names) (running_in (length names) running) (running_in (length names) planned) names ≡ false
  pub counted : starts ≡ length (starting (length names) (running_in (length names) running) (running_in (length names) planned))
  pub fits : starts ≤ room
