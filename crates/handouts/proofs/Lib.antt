mod BlankCounts
