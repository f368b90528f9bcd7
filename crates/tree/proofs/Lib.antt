mod Trees
