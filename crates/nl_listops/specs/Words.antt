-- Which word of values a code is, by the named codes of the table of words. A second spelling is the same word.
use Rattle.std.specs.Prelude.{◌==◌, Option, Some, None, if◌then◌else◌}
use Rattle.std.specs.Option.{option_or}
use Rattle.nl_words.specs.Row.{Code}
use Rattle.nl_words.specs.declared.codes.TheConstants as code
use Rattle.nl_listops.specs.declared.words.ValueWord.{ValueWord}
use Rattle.nl_listops.specs.declared.words.ValueWord.TheVariants as word
use Rattle.nl_listops.specs.declared.words.Fixed.TheVariants as fixed
use Rattle.nl_listops.specs.declared.words.OfNumber.TheVariants as of_number
use Rattle.nl_listops.specs.declared.words.OfNumbers.TheVariants as of_numbers
use Rattle.nl_listops.specs.declared.words.OfTruths.TheVariants as of_truths
use Rattle.nl_listops.specs.declared.words.Comparison.TheVariants as compare
use Rattle.nl_listops.specs.declared.words.KindTest.TheVariants as kind
use Rattle.nl_listops.specs.declared.words.OfMany.TheVariants as of_many
use Rattle.nl_listops.specs.declared.words.OfList.TheVariants as of_list
use Rattle.nl_listops.specs.declared.words.PutAtEnd.TheVariants as at_end
use Rattle.nl_listops.specs.declared.words.OfSeries.TheVariants as of_series
use Rattle.nl_listops.specs.declared.words.AtPlace.TheVariants as at_place
use Rattle.nl_listops.specs.declared.words.PutAtPlace.TheVariants as put
use Rattle.nl_listops.specs.declared.words.Search.TheVariants as search_for
use Rattle.nl_listops.specs.declared.words.Statistic.TheVariants as statistic
use Rattle.nl_listops.specs.declared.words.Draw.TheVariants as draw

-- arithmetic
abbrev pub arithmetic_word : Code → Option ValueWord
arithmetic_word n =
    if n == code.PLUS then Some (word.OfNumbers of_numbers.Plus)
    else (if n == code.MINUS then Some (word.OfNumbers of_numbers.Minus)
    else (if n == code.TIMES then Some (word.OfNumbers of_numbers.Times)
    else (if n == code.DIVIDED then Some (word.OfNumbers of_numbers.Divided)
    else (if n == code.POWER then Some (word.OfNumbers of_numbers.Power)
    else (if n == code.MOD then Some (word.OfNumbers of_numbers.Modulo)
    else (if n == code.REMAINDER then Some (word.OfNumbers of_numbers.Remainder)
    else (if n == code.ATAN then Some (word.OfNumbers of_numbers.Atan)
    else (if n == code.PRECISION then Some (word.OfNumbers of_numbers.Precision)
    else (if n == code.SUBTRACT_HEADINGS then Some (word.OfNumbers of_numbers.SubtractHeadings)
    else (if n == code.ABS then Some (word.OfNumber of_number.Abs)
    else (if n == code.CEILING then Some (word.OfNumber of_number.Ceiling)
    else (if n == code.COS then Some (word.OfNumber of_number.Cos)
    else (if n == code.FLOOR then Some (word.OfNumber of_number.Floor)
    else (if n == code.INT then Some (word.OfNumber of_number.Int)
    else (if n == code.ROUND then Some (word.OfNumber of_number.Round)
    else (if n == code.SIN then Some (word.OfNumber of_number.Sin)
    else (if n == code.SQRT then Some (word.OfNumber of_number.Sqrt)
    else (if n == code.TAN then Some (word.OfNumber of_number.Tan)
    else (if n == code.WRAP_COLOR then Some (word.OfNumber of_number.WrapColor)
    else None)))))))))))))))))))

-- truths and comparisons
abbrev pub truth_word : Code → Option ValueWord
truth_word n =
    if n == code.AND then Some (word.OfTruths of_truths.And)
    else (if n == code.OR then Some (word.OfTruths of_truths.Or)
    else (if n == code.XOR then Some (word.OfTruths of_truths.Xor)
    else (if n == code.NOT then Some word.Not
    else (if n == code.EQUAL then Some (word.Compare compare.Equal)
    else (if n == code.NOT_EQUAL then Some (word.Compare compare.NotEqual)
    else (if n == code.LESS then Some (word.Compare compare.Less)
    else (if n == code.GREATER then Some (word.Compare compare.Greater)
    else (if n == code.LESS_EQUAL then Some (word.Compare compare.LessEqual)
    else (if n == code.GREATER_EQUAL then Some (word.Compare compare.GreaterEqual)
    else None)))))))))

-- tests of kinds
abbrev pub kind_word : Code → Option ValueWord
kind_word n =
    if n == code.IS_NUMBER then Some (word.IsKind kind.Number)
    else (if n == code.IS_BOOLEAN then Some (word.IsKind kind.Boolean)
    else (if n == code.IS_STRING then Some (word.IsKind kind.Text)
    else (if n == code.IS_LIST then Some (word.IsKind kind.List)
    else (if n == code.IS_AGENT then Some (word.IsKind kind.Agent)
    else (if n == code.IS_PATCH then Some (word.IsKind kind.Patch)
    else (if n == code.IS_AGENTSET then Some (word.IsKind kind.Agentset)
    else (if n == code.IS_TURTLE_SET then Some (word.IsKind kind.TurtleSet)
    else (if n == code.IS_PATCH_SET then Some (word.IsKind kind.PatchSet)
    else (if n == code.IS_LINK_SET then Some (word.IsKind kind.LinkSet)
    else None)))))))))

-- lists, and what makes them
abbrev pub list_word : Code → Option ValueWord
list_word n =
    if n == code.LIST then Some (word.OfMany of_many.List)
    else (if n == code.SENTENCE then Some (word.OfMany of_many.Sentence)
    else (if n == code.SE then Some (word.OfMany of_many.Sentence)
    else (if n == code.WORD then Some (word.OfMany of_many.Word)
    else (if n == code.RANGE then Some (word.OfMany of_many.Range)
    else (if n == code.FPUT then Some (word.PutAtEnd at_end.First)
    else (if n == code.LPUT then Some (word.PutAtEnd at_end.Last)
    else (if n == code.REMOVE_DUPLICATES then Some (word.OfList of_list.RemoveDuplicates)
    else (if n == code.SORT then Some (word.OfList of_list.Sort)
    else (if n == code.MODES then Some (word.OfList of_list.Modes)
    else (if n == code.SUBLIST then Some word.Sublist
    else (if n == code.SUBSTRING then Some word.Substring
    else None)))))))))))

-- lists and texts
abbrev pub series_word : Code → Option ValueWord
series_word n =
    if n == code.FIRST then Some (word.OfSeries of_series.First)
    else (if n == code.LAST then Some (word.OfSeries of_series.Last)
    else (if n == code.BUT_FIRST then Some (word.OfSeries of_series.ButFirst)
    else (if n == code.BF then Some (word.OfSeries of_series.ButFirst)
    else (if n == code.BUTFIRST then Some (word.OfSeries of_series.ButFirst)
    else (if n == code.BUT_LAST then Some (word.OfSeries of_series.ButLast)
    else (if n == code.BL then Some (word.OfSeries of_series.ButLast)
    else (if n == code.BUTLAST then Some (word.OfSeries of_series.ButLast)
    else (if n == code.LENGTH then Some (word.OfSeries of_series.Length)
    else (if n == code.EMPTY then Some (word.OfSeries of_series.IsEmpty)
    else (if n == code.REVERSE then Some (word.OfSeries of_series.Reverse)
    else (if n == code.ITEM then Some (word.AtPlace at_place.Item)
    else (if n == code.REMOVE_ITEM then Some (word.AtPlace at_place.RemoveItem)
    else (if n == code.REPLACE_ITEM then Some (word.PutAtPlace put.ReplaceItem)
    else (if n == code.INSERT_ITEM then Some (word.PutAtPlace put.InsertItem)
    else (if n == code.MEMBER then Some (word.Search search_for.Member)
    else (if n == code.POSITION then Some (word.Search search_for.Position)
    else (if n == code.REMOVE then Some (word.Search search_for.Remove)
    else None)))))))))))))))))

-- statistics
abbrev pub statistic_word : Code → Option ValueWord
statistic_word n =
    if n == code.SUM then Some (word.Statistic statistic.Sum)
    else (if n == code.MIN then Some (word.Statistic statistic.Min)
    else (if n == code.MAX then Some (word.Statistic statistic.Max)
    else (if n == code.MEAN then Some (word.Statistic statistic.Mean)
    else (if n == code.MEDIAN then Some (word.Statistic statistic.Median)
    else (if n == code.VARIANCE then Some (word.Statistic statistic.Variance)
    else (if n == code.STANDARD_DEVIATION then Some (word.Statistic statistic.StandardDeviation)
    else None))))))

-- what has no inputs, colors and draws
abbrev pub other_word : Code → Option ValueWord
other_word n =
    if n == code.PI then Some (word.Fixed fixed.Pi)
    else (if n == code.E then Some (word.Fixed fixed.E)
    else (if n == code.TRUE then Some (word.Fixed fixed.True)
    else (if n == code.FALSE then Some (word.Fixed fixed.False)
    else (if n == code.NOBODY then Some (word.Fixed fixed.Nobody)
    else (if n == code.BASE_COLORS then Some (word.Fixed fixed.BaseColors)
    else (if n == code.SHADE_OF then Some word.ShadeOf
    else (if n == code.SCALE_COLOR then Some word.ScaleColor
    else (if n == code.RANDOM then Some (word.Draws draw.Random)
    else (if n == code.RANDOM_FLOAT then Some (word.Draws draw.RandomFloat)
    else (if n == code.SHUFFLE then Some (word.Draws draw.Shuffle)
    else None))))))))))

-- the word that has a code
abbrev pub value_word : Code → Option ValueWord
value_word n =
    option_or (option_or (option_or (option_or (option_or (option_or (arithmetic_word n) (truth_word n)) (kind_word n)) (list_word n)) (series_word n)) (statistic_word n)) (other_word n)
