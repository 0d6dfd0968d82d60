-- The named productions of the language.

pub data Rule : Type 0 where
  whole_module table index function path parameters block : Rule
  statement let_statement if_statement for_statement return_statement throw_statement assignment evaluation : Rule
  expression conjunction comparison sum term unary postfix suffix primary : Rule
  named builtin_call array object entry group scan bound count lookup moment insertion change : Rule
