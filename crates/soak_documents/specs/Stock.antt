-- The specification of the generated documents: items of which 40 are in stock, at most 80.
use Rattle.std.specs.Prelude.{ℕ, pos, List, [], ◌∷◌, codes, Some, false}
use Rattle.spec_model.specs.declared.clause.Var.{Var}
use Rattle.spec_model.specs.declared.operation.Line.{Line}
use Rattle.spec_model.specs.declared.operation.Line.TheVariants as lines
use Rattle.spec_model.specs.declared.operation.Op.{Op}
use Rattle.spec_model.specs.declared.spec.Num.{Num}
use Rattle.spec_model.specs.declared.spec.Sort.{Sort}
use Rattle.spec_model.specs.declared.spec.Spec.{Spec}

-- sort item 8
abbrev pub item_sort : Sort
item_sort = record { name = codes "item"; size = 8 }

-- num stock(item) init 40 min 0 max 80
abbrev pub stock_num : Num
stock_num = record { name = codes "stock"; sorts = 0 ∷ []; init = pos 40; min = Some (pos 0); max = Some (pos 80) }

-- the parameter i:item
abbrev pub item_param : Var
item_param = record { name = codes "i"; sort = 0; interval = false }

-- an operation on one item, with one line
abbrev pub item_op : List ℕ → Line → Op
item_op name line = record { name = name; params = item_param ∷ []; lines = line ∷ [] }

-- op buy(i:item), sub 1 stock(i)
abbrev pub buy_op : Op
buy_op = item_op (codes "buy") (lines.Sub 0 (0 ∷ []) 1)

-- op refill(i:item), add 3 stock(i)
abbrev pub refill_op : Op
refill_op = item_op (codes "refill") (lines.Add 0 (0 ∷ []) 3)

abbrev pub stock_spec : Spec
stock_spec = record { sorts = item_sort ∷ []; preds = []; nums = stock_num ∷ []; clauses = []; ops = buy_op ∷ refill_op ∷ []; free = [] }
