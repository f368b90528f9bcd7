-- What is on the left of a row and on the right of it, told by what is on a hand and what is on the other.
use Rattle.rows.specs.declared.balance.Hand.{Hand}
use Rattle.rows.specs.declared.balance.Hand.TheVariants.{Left, Right}

abbrev pub left_by : {A : Type 0} → Hand → A → A → A
left_by Left near far = near
left_by Right near far = far

abbrev pub right_by : {A : Type 0} → Hand → A → A → A
right_by Left near far = far
right_by Right near far = near
